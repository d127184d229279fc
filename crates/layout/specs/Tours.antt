-- What the structs of a tour of include/polgamir.h stand for.
use Rattle.std.specs.Prelude.{ℕ, List}
use Rattle.model.specs.declared.AxisLimits.{AxisLimits}
use Rattle.std.specs.Prelude.{None}
use Rattle.model.specs.declared.TourSettings.{TourSettings}
use Rattle.model.specs.declared.Weight.TheVariants.{Given}
use Rattle.layout.specs.declared.tours.PolgamirLimits.{PolgamirLimits}
use Rattle.layout.specs.declared.tours.PolgamirTour.{PolgamirTour}
use Rattle.layout.specs.Jobs.{weight_from_c, sway_of, named_of}

abbrev pub limits_of : PolgamirLimits → AxisLimits
limits_of l =
    record {
      speed_limit = l.speed_limit;
      acceleration_limit = l.acceleration_limit;
      half_period = l.half_period;
      second_weight =
          weight_from_c l.damping_kind l.second_weight l.swing_ratio l.first_peak l.second_peak;
      second_sway = sway_of l.second_sway_given l.second_half_period;
    }

-- what stands where the mask names no axis: zero in every field, and no second sway
abbrev pub unset_limits : AxisLimits
unset_limits =
    record {
      speed_limit = 0;
      acceleration_limit = 0;
      half_period = 0;
      second_weight = Given 0;
      second_sway = None;
    }

-- the limits of the axes that the mask names; the others are not looked at, and unset
abbrev pub all_limits_of : ℕ → List PolgamirLimits → List AxisLimits
all_limits_of m l = named_of limits_of unset_limits m l

abbrev pub settings_of : PolgamirTour → TourSettings
settings_of t = record { mask = t.mask; start = t.start; limits = all_limits_of t.mask t.limits }
