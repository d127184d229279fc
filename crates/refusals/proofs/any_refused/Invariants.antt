-- `any_refused`: the first of the axes that are left is that of all.
use mathlib.Core.Path.{◌≡◌}
use Rattle.model.specs.planning.Job.{set_axes}
use Rattle.model.specs.planning.Admission.{first_axis}
use Rattle.model.proofs.SetAxes.{from}
use Rattle.refusals.specs.Checks.{refused_by, tests_for}
use Rattle.refusals.proofs.any_refused.Given as goal

abbrev pub invariant-loop-x : goal.invariant-loop-x
invariant-loop-x l =
    first_axis (refused_by (tests_for l.resting)) (from l.x-index l.bits l.axes)
    ≡ first_axis (refused_by (tests_for l.resting)) (set_axes 0 l.fn.mask l.axes)
