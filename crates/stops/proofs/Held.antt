-- What the row of a lent row holds.
use Prim.Native.Nat.{ℕ, zero, suc, ◌≤◌}
use native.Mathlib.Omega.{arith}
use mathlib.Core.Path.{◌≡◌, refl, sym, ap, ◌∙◌}
use mathlib.Core.List.{List, ◌++◌}
use lib.ListN.{length, get_or, take, drop, replicate}
use Rattle.whole.proofs.Counting.{next_one}
use Rattle.stops.proofs.LegLists.{front-next}
use Rattle.model.specs.declared.Stop.{Stop}
use Rattle.stops.specs.declared.StopRow.{StopRow}
use Rattle.stops.specs.Rows.{no_stop, with_stop, row_to}

-- the first k stops of a list over an empty row
pub row-front : (l : List Stop) (k : ℕ) → k ≤ 64 → k ≤ length l
    → row_to l k ≡ record { stops = take k l ++ drop k (replicate 64 no_stop); lent = length l }
unfolding row_to
row-front l zero h g = refl
row-front l (suc k) h g =
    ap (λ (w : StopRow). with_stop w k (get_or l k no_stop)) (row-front l k (omega arith) (omega arith))
    ∙ (λ i. record {
      stops = (front-next l (replicate 64 no_stop) k no_stop (omega arith) (omega arith)
          ∙ ap (λ (m : ℕ). take m l ++ drop m (replicate 64 no_stop)) (sym (next_one k))) i;
      lent = length l;
    })
