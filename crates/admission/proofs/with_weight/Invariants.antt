-- `with_weight`: the axes before axis i are done, and the bits that are left name those to come.
use mathlib.Core.Path.{◌≡◌}
use Rattle.admission.specs.Admitting.{named_with_weight}
use Rattle.admission.proofs.Weights.{hand_from}
use Rattle.admission.proofs.with_weight.Given as goal

abbrev pub invariant-loop-x : goal.invariant-loop-x
invariant-loop-x l = hand_from l.x-index l.bits l.x-items ≡ named_with_weight l.fn.mask l.fn.axes
