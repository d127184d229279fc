-- `first_axis`: the first of the axes that are left is that of all.
use mathlib.Core.Path.{◌≡◌}
use Rattle.model.specs.planning.Job.{set_axes}
use Rattle.model.specs.planning.Admission.{first_axis}
use Rattle.model.proofs.SetAxes.{from}
use Rattle.refusals.specs.Checks.{refuses}
use Rattle.refusals.proofs.first_axis.Given as goal

abbrev pub invariant-loop-i : goal.invariant-loop-i
invariant-loop-i l =
    first_axis (refuses l.test) (from l.i l.bits l.axes) ≡ first_axis (refuses l.test) (set_axes 0 l.fn.mask l.axes)
