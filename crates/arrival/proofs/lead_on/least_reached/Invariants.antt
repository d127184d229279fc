use Prim.Native.Nat.{ℕ, ◌≤◌, ◌<◌}
use mathlib.Core.Path.{◌≡◌}
use mathlib.Core.Bool.{true}
use Rattle.model.specs.planning.Outcome.{all_reach}
use Rattle.model.specs.planning.Job.{set_axes}
use Rattle.arrival.proofs.Leading.{bits_from, reach}
use Rattle.arrival.proofs.Leading.{Led}
use Rattle.arrival.proofs.lead_on.least_reached.Given as goal

abbrev pub invariant-loop-number : goal.invariant-loop-number
invariant-loop-number l =
    record {
      bits : l.bits ≡ bits_from l.fn.mask l.number;
      inside : 0 < l.number → l.n ≤ l.fn.last;
      led : Led (all_reach (set_axes 0 l.fn.mask l.fn.axes))
          (reach l.fn.mask l.fn.axes) l.fn.first l.fn.last l.number l.again l.n;
    }

abbrev pub invariant-loop-axis : goal.invariant-loop-axis
invariant-loop-axis l =
    record {
      bits : l.left ≡ bits_from l.fn.mask l.axis-index;
      lower : (j : ℕ) → j < l.axis-index → reach l.fn.mask l.fn.axes j l.n ≡ true;
    }
