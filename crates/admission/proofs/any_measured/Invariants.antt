-- `any_measured`: one of the axes that are left is to be worked out where one of all is.
use mathlib.Core.Path.{◌≡◌}
use Rattle.model.specs.planning.Job.{set_axes}
use Rattle.admission.specs.Admitting.{any_measured}
use Rattle.admission.proofs.Weights.{measured_on}
use Rattle.admission.proofs.any_measured.Given as goal

abbrev pub invariant-loop-x : goal.invariant-loop-x
invariant-loop-x l = measured_on l.fn.axes l.x-index l.bits ≡ any_measured (set_axes 0 l.fn.mask l.fn.axes)
