use mathlib.Core.Path.{◌≡◌}
use lib.ListN.{length}
use Rattle.model.specs.planning.Job.{set_axes}
use Rattle.model.specs.planning.Refusals.{AllPassed}
use Rattle.model.specs.calls.Raises.{raises_from, none_raised}
use Rattle.model.proofs.SetAxes.{from}
use Rattle.raises.proofs.raises_for.Given as goal

abbrev pub invariant-loop-number : goal.invariant-loop-number
invariant-loop-number l =
    record {
      six : length l.fn.axes ≡ 6;
      long : length l.raises ≡ 6;
      passed : AllPassed (from l.number l.bits l.fn.axes);
      is : raises_from l.fn.asked (from l.number l.bits l.fn.axes) l.raises
          ≡ raises_from l.fn.asked (set_axes 0 l.fn.mask l.fn.axes) none_raised;
    }
