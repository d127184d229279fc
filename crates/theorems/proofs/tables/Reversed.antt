-- The rows of a backward table are the forward rows in reverse order: `rows-reversed`.
use Prim.Native.Nat.{ℕ, zero, suc, ◌+◌, ◌-◌, ◌<◌}
use mathlib.Core.Path.{◌≡◌, refl, sym, ap, ap₂, ◌∙◌}
use mathlib.Core.List.{List, [], ◌∷◌, ◌++◌, map, reverse, reverse-append, flatten}
use native.Mathlib.Omega.{arith}
use native.Mathlib.Nat.{add-zero}
use lib.IntN.{ℤ}
use Rattle.model.specs.declared.Axis.{Axis}
use Rattle.model.specs.declared.Order.TheVariants.{Backwards}
use Rattle.model.specs.planning.Rows.{planned_axis, tabulate, row, table}

-- one more at the end, the same by two functions, and from one later on
pub tabulate-more : (f : ℕ → List ℤ) (k n : ℕ) → tabulate f k (suc n) ≡ tabulate f k n ++ (f (k + n) ∷ [])
tabulate-more f k zero = ap (λ (j : ℕ). f j ∷ []) (sym (add-zero k))
tabulate-more f k (suc n) =
    let e : suc k + n ≡ k + suc n = omega arith in
    ap (λ (l : List (List ℤ)). f k ∷ l)
    (tabulate-more f (suc k) n ∙ ap (λ (j : ℕ). tabulate f (suc k) n ++ (f j ∷ [])) e)

pub tabulate-same : (f g : ℕ → List ℤ) (k n : ℕ) → ((j : ℕ) → j < k + n → f j ≡ g j) → tabulate f k n ≡ tabulate g k n
tabulate-same f g k zero h = refl
tabulate-same f g k (suc n) h =
    ap₂ (λ (x : List ℤ) (l : List (List ℤ)). x ∷ l) (h k (omega arith))
    (tabulate-same f g (suc k) n (λ j q. h j (omega arith)))

tabulate-later : (f : ℕ → List ℤ) (k n : ℕ) → tabulate (λ j. f (suc j)) k n ≡ tabulate f (suc k) n
tabulate-later f k zero = refl
tabulate-later f k (suc n) = ap (λ (l : List (List ℤ)). f (suc k) ∷ l) (tabulate-later f (suc k) n)

-- from n down to 0
reversed : (f : ℕ → List ℤ) (n : ℕ) → reverse (tabulate f 0 (suc n)) ≡ tabulate (λ j. f (n - j)) 0 (suc n)
reversed f zero = ap (λ (j : ℕ). f j ∷ []) {x = 0} {y = 0 - 0} (omega arith)
reversed f (suc n) =
    ap reverse (tabulate-more f 0 (suc n))
    ∙ reverse-append (tabulate f 0 (suc n)) (f (0 + suc n) ∷ [])
    ∙ ap₂ (λ (j : ℕ) (l : List (List ℤ)). f j ∷ l) {x = 0 + suc n} {y = suc n - 0} (omega arith) (reversed f n ∙ later)
  where
    one : (j : ℕ) → n - j ≡ suc n - suc j
    one j = omega arith

    later : tabulate (λ j. f (n - j)) 0 (suc n) ≡ tabulate (λ j. f (suc n - j)) 1 (suc n)
    later =
        tabulate-same (λ j. f (n - j)) (λ j. f (suc n - suc j)) 0 (suc n) (λ j q. ap f (one j))
        ∙ tabulate-later (λ j. f (suc n - j)) 0 (suc n)

pub rows-reversed : (xs : List Axis) (n : ℕ)
    → table Backwards xs n ≡ flatten (reverse (tabulate (row (map (planned_axis n) xs)) 0 (suc n)))
rows-reversed xs n = ap flatten (sym (reversed (row (map (planned_axis n) xs)) n))
