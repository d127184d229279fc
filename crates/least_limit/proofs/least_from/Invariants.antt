use Prim.Native.Nat.{ℕ, ◌+◌, ◌-◌, ◌≤◌, ◌<◌}
use mathlib.Core.Path.{◌≡◌}
use mathlib.Core.Bool.{true, false}
use Rattle.least_limit.specs.Limits.{enough_with}
use Rattle.least_limit.proofs.least_from.Given as goal

-- every value before `low` falls short, and `high` is enough or is `after`; a
-- test takes at least one value away
abbrev pub invariant-loop-low : goal.invariant-loop-low
invariant-loop-low l =
    record {
      least : l.fn.first ≤ l.low;
      order : l.low ≤ l.high;
      most : l.high ≤ l.fn.after;
      few : l.tests + (l.high - l.low) ≤ l.fn.after;
      short : (k : ℕ) → l.fn.first ≤ k → k < l.low → enough_with l.fn.limit l.fn.t k ≡ false;
      enough : l.high < l.fn.after → enough_with l.fn.limit l.fn.t l.high ≡ true;
    }

abbrev pub decreases-loop-low : goal.decreases-loop-low
decreases-loop-low l = l.high - l.low
