-- An axis whose second weight is given is the axis by hand.
use mathlib.Core.Path.{◌≡◌, refl, sym}
use mathlib.Core.Bool.{false, false≢true}
use Rattle.model.specs.declared.Axis.{Axis}
use Rattle.model.specs.declared.Weight.{Weight}
use Rattle.model.specs.declared.Weight.TheVariants.{Given, Measured}
use Rattle.model.specs.planning.Damping.{weight_of}
use Rattle.theorems.specs.GivenWeights.{with_weight}
use Rattle.motion.specs.Motions.{measured_by, measured}

given-weight : (w : Weight) → measured_by w ≡ false → w ≡ Given (weight_of w)
given-weight (Given b) e = refl
given-weight (Measured d) e = absurd (false≢true (sym e))

pub given_is : (x : Axis) → measured x ≡ false → x ≡ with_weight x
given_is x e =
    λ i.
    record {
      start = x.start;
      speed_limit = x.speed_limit;
      acceleration_limit = x.acceleration_limit;
      half_period = x.half_period;
      second_weight = given-weight x.second_weight e i;
      second_sway = x.second_sway;
      target = x.target;
    }
