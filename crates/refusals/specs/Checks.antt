-- The refusals of axes and of windows, in checking order.
use Rattle.std.specs.Prelude.{Bool, true, false, ◌||◌, List, [], ◌∷◌}
use Rattle.std.specs.Prelude.{Option, None, Some}
use Rattle.std.specs.declared.result.Result.{Result}
use Rattle.std.specs.declared.result.Result.TheVariants.{Ok, Err}
use Rattle.model.specs.declared.Answer.{Answer}
use Rattle.model.specs.declared.Axis.{Axis}
use Rattle.model.specs.declared.Windows.{Windows}
use Rattle.model.specs.declared.refusal.AxisTest.{AxisTest}
use Rattle.model.specs.declared.refusal.AxisTest.TheVariants.{Limits, Damping, Blend, SecondSway, Values, Acceleration}
use Rattle.model.specs.declared.refusal.AxisTest.TheVariants.{Flying}
use Rattle.model.specs.planning.Windows.{refused13}
use Rattle.model.specs.planning.Job.{JobAxis}
use Rattle.model.specs.planning.Told.{refusal}
use Rattle.model.specs.planning.Refusals.{limits_refused, damping_refused, blend_refused, sway_refused, values_refused}
use Rattle.model.specs.planning.Refusals.{acceleration_refused, flying_refused}
use Rattle.model.specs.planning.Admission.{first_axis, Tests, axis_refusals, Admission, refused_at, admitted}
use Rattle.model.specs.calls.Converter.{old_refusals}

-- ---- refusals 4, 12, 5, 15, 6, 16, 17 and 13

-- refusal 13, or none
abbrev pub window_refusal : Option Windows → Result Unit Answer
window_refusal w = elim (refused13 w) [ Some p ↦ Err (refusal 13 p) | None ↦ Ok tt ]

-- the tests of the axes, where fixed targets must be at rest and where they may fly
abbrev pub tests_for : Bool → Tests
tests_for true = axis_refusals
tests_for false = old_refusals

-- the first refusal of a list of numbered tests, or then 13, or none
abbrev pub first_refusal : Tests → List JobAxis → Option Windows → Result Unit Answer
first_refusal [] xs w = window_refusal w
first_refusal (t ∷ ts) xs w =
    elim (first_axis t.1 xs) [ Some i ↦ Err (refusal t.0 i) | None ↦ first_refusal ts xs w ]

-- whether one of a list of numbered tests refuses an axis
abbrev pub refused_by : Tests → Axis → Bool
refused_by [] x = false
refused_by (t ∷ ts) x = t.1 x || refused_by ts x

-- admission without its job
abbrev pub without_job : Admission → Result Unit Answer
without_job (refused_at n p) = Err (refusal n p)
without_job (admitted j) = Ok tt

-- ---- the tests by name

-- whether a test refuses an axis
abbrev pub refuses : AxisTest → Axis → Bool
refuses Limits x = limits_refused x
refuses Damping x = damping_refused x
refuses Blend x = blend_refused x
refuses SecondSway x = sway_refused x
refuses Values x = values_refused x
refuses Acceleration x = acceleration_refused x
refuses Flying x = flying_refused x

-- the tests in checking order
abbrev pub order : Bool → List AxisTest
order true = Limits ∷ Damping ∷ Blend ∷ SecondSway ∷ Values ∷ Acceleration ∷ Flying ∷ []
order false = Limits ∷ Damping ∷ Blend ∷ SecondSway ∷ Values ∷ Acceleration ∷ []
