use mathlib.Core.Path.{◌≡◌}
use Rattle.model.specs.planning.Refusals.{AllPassed}
use Rattle.model.specs.planning.Outcome.{all_reach}
use Rattle.model.specs.planning.Job.{set_axes}
use Rattle.model.proofs.SetAxes.{from}
use Rattle.arrival.proofs.reached.all_reach.Given as goal

abbrev pub invariant-loop-axis : goal.invariant-loop-axis
invariant-loop-axis l =
    record {
      passed : AllPassed (from l.axis-index l.bits l.fn.axes);
      reach : all_reach (from l.axis-index l.bits l.fn.axes) l.fn.tick
          ≡ all_reach (set_axes 0 l.fn.mask l.fn.axes) l.fn.tick;
    }
