use Prim.Native.Nat.{◌+◌, ◌^◌, ◌≤◌}
use mathlib.Core.Path.{◌≡◌}
use Rattle.model.specs.planning.Refusals.{AllPassed}
use Rattle.model.specs.planning.Job.{set_axes, mask_where}
use Rattle.arrival.specs.Arrivals.{cannot_arrive}
use Rattle.arrival.proofs.Unable.{rest}
use Rattle.model.proofs.SetAxes.{from}
use Rattle.arrival.proofs.reached.unable_axes.Given as goal

abbrev pub invariant-loop-axis : goal.invariant-loop-axis
invariant-loop-axis l =
    record {
      passed : AllPassed (from l.axis-index l.bits l.fn.axes);
      power : l.bit ≡ 2 ^ l.axis-index;
      small : l.unable + 1 ≤ l.bit;
      sum : l.unable + rest l.fn.asked l.axis-index l.bits l.fn.axes
          ≡ mask_where (cannot_arrive l.fn.asked) (set_axes 0 l.fn.mask l.fn.axes);
    }
