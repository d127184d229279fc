-- `check`: what the tests that are left come to is what all come to.
use mathlib.Core.Path.{◌≡◌}
use lib.ListN.{drop}
use Rattle.model.specs.planning.Job.{set_axes}
use Rattle.refusals.specs.Checks.{order}
use Rattle.refusals.proofs.InOrder.{left}
use Rattle.refusals.proofs.check.Given as goal

abbrev pub invariant-loop-test : goal.invariant-loop-test
invariant-loop-test l =
    left (drop l.test-index (order l.resting)) (set_axes 0 l.mask l.axes) l.windows
    ≡ left (order l.resting) (set_axes 0 l.mask l.axes) l.windows
