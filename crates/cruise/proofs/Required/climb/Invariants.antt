use Prim.Native.Nat.{◌^◌}
use mathlib.Core.Path.{◌≡◌}
use Rattle.whole.specs.Ranges.{Within}
use Rattle.model.specs.planning.Leg.{cruise}
use Rattle.cruise.proofs.ClimbSteps.{climb_from}
use Rattle.cruise.proofs.Required.climb.Given as goal

abbrev pub invariant-loop-bit : goal.invariant-loop-bit
invariant-loop-bit g l =
    record {
      near : Within (2 ^ 37) l.c;
      small : Within l.fn.self.profile.speed_limit l.c;
      halved : l.step ≡ 2 ^ l._bit;
      climbing : climb_from l.fn.self.profile l.fn.self.sum l._bit l.c ≡ cruise l.fn.self.profile l.fn.self.sum;
    }
