use Prim.Native.Nat.{suc, ◌-◌, ◌≤◌, ◌<◌}
use mathlib.Core.Bool.{true, false}
use Rattle.whole.proofs.halving.failing_near.Given as goal

abbrev pub invariant-loop-high : goal.invariant-loop-high
invariant-loop-high g l =
    record {
      from : l.fn.failing ≤ l.low;
      apart : l.low < l.high;
      end : l.high ≤ suc l.fn.last;
      failed : l.fn.failing < l.low → goal.F-post g l.fn.passes l.low false;
      passed : l.high ≤ l.fn.last → goal.F-post g l.fn.passes l.high true;
    }

abbrev pub decreases-loop-high : goal.decreases-loop-high
decreases-loop-high g l = l.high - l.low
