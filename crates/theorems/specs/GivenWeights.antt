-- Damping as measured gives what the same job with each B entered by hand gives
-- (docs/METHOD.md, 2.4), unless 12 refuses it: in every call from typed values. That it does is
-- the theorem `measured-is-given`.
use Rattle.std.specs.Prelude.{ℕ, ◌≡◌, List, map, ℤ}
use Rattle.model.specs.declared.AxisLimits.{AxisLimits}
use Rattle.model.specs.declared.Job as Typed
use Rattle.model.specs.declared.Order.{Order}
use Rattle.model.specs.declared.Stop.{Stop}
use Rattle.model.specs.declared.TourSettings.{TourSettings}
use Rattle.model.specs.declared.Weight.TheVariants.{Given}
use Rattle.model.specs.planning.Damping.{weight_of}
use Rattle.model.specs.planning.Outcome.{typed, call_in}
use Rattle.model.specs.calls.Parts.{part_call}
use Rattle.model.specs.calls.Raises.{raises_call}
use Rattle.model.specs.calls.Search.{search_call}
use Rattle.model.specs.calls.Tour.{tour_outcome}
use Rattle.model.specs.declared.Axis.{Axis}
use Rattle.model.specs.planning.Quantities.{second_weight}
use Rattle.model.specs.planning.Job.{JobAxis, Job}

-- the same axis with the number B given
abbrev pub with_weight : Axis → Axis
with_weight x =
    record {
      start = x.start;
      speed_limit = x.speed_limit;
      acceleration_limit = x.acceleration_limit;
      half_period = x.half_period;
      second_weight = Given (second_weight x);
      second_sway = x.second_sway;
      target = x.target;
    }

-- the same job with the number B of each axis given
abbrev pub axes_with_weight : List JobAxis → List JobAxis
axes_with_weight xs = map (λ x. record { number = x.number; axis = with_weight x.axis }) xs

abbrev pub job_with_weight : Job → Job
job_with_weight j = record { mask = j.mask; asked = j.asked; axes = axes_with_weight j.axes; windows = j.windows }

-- the same job of typed values
abbrev pub typed_with_weight : Typed.Job → Typed.Job
typed_with_weight t = record { mask = t.mask; asked = t.asked; axes = map with_weight t.axes; windows = t.windows }

-- the settings of a tour with the number B of each axis given
abbrev pub limits_with_weight : AxisLimits → AxisLimits
limits_with_weight l =
    record {
      speed_limit = l.speed_limit;
      acceleration_limit = l.acceleration_limit;
      half_period = l.half_period;
      second_weight = Given (weight_of l.second_weight);
      second_sway = l.second_sway;
    }

abbrev pub settings_with_weight : TourSettings → TourSettings
settings_with_weight t = record { mask = t.mask; limits = map limits_with_weight t.limits; start = t.start }

-- the answer and every lent cell or entry are the same
pub record MeasuredIsGiven : Type 0 where
  -- a table, with its rows in either order
  pub tables : (o : Order) (t : Typed.Job) (lent : List ℤ) → ((call_in o (typed t) lent).number ≡ 12 → ⊥)
      → call_in o (typed (typed_with_weight t)) lent ≡ call_in o (typed t) lent
  -- the rows from row k on
  pub parts : (t : Typed.Job) (k : ℕ) (lent : List ℤ) → ((part_call (typed t) k lent).answer.number ≡ 12 → ⊥)
      → part_call (typed (typed_with_weight t)) k lent ≡ part_call (typed t) k lent
  pub raises : (t : Typed.Job) → ((raises_call (typed t)).answer.number ≡ 12 → ⊥)
      → raises_call (typed (typed_with_weight t)) ≡ raises_call (typed t)
  pub searches : (t : Typed.Job) (first budget : ℕ) → ((search_call (typed t) first budget).number ≡ 12 → ⊥)
      → search_call (typed (typed_with_weight t)) first budget ≡ search_call (typed t) first budget
  pub tours : (t : TourSettings) (stops : List Stop) (lent : List ℕ) → ((tour_outcome t stops lent).number ≡ 12 → ⊥)
      → tour_outcome (settings_with_weight t) stops lent ≡ tour_outcome t stops lent
