use Prim.Native.Nat.{ℕ, ◌≤◌, ◌<◌}
use mathlib.Core.Path.{◌≡◌}
use mathlib.Core.Bool.{false}
use Rattle.envelopes.specs.Sums.{envelope_sums_at, with_ticks, between}
use Rattle.envelopes.proofs.next_between.Given as goal

abbrev pub invariant-loop-t : goal.invariant-loop-t
invariant-loop-t l =
    record {
      low : l.fn.p.ticks ≤ l.t;
      are : l.sums ≡ envelope_sums_at (with_ticks l.fn.p l.t);
      missed : (k : ℕ) → l.fn.p.ticks ≤ k → k < l.t → between l.fn.sought l.fn.p k ≡ false;
    }
