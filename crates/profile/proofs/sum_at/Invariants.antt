use Prim.Native.Nat.{◌-◌, ◌*◌, ◌^◌, ◌≤◌}
use mathlib.Core.Path.{◌≡◌}
use lib.IntN.{nat_abs}
use Rattle.whole.specs.Integers.{sum_to}
use Rattle.model.specs.planning.Leg.{clamped}
use Rattle.profile.proofs.sum_at.Given as goal

abbrev pub invariant-loop-k : goal.invariant-loop-k
invariant-loop-k l =
    record {
      low : 1 ≤ l.k;
      high : l.k - 1 ≤ l.k-end - 1;
      sums : l.sum ≡ sum_to (clamped l.fn.p l.fn.c) (l.k - 1);
      small : nat_abs (sum_to (clamped l.fn.p l.fn.c) (l.k - 1)) ≤ l.k * 2 ^ 47;
    }
