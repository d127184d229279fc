-- Where a cell stands in the table: axis i of row k has its three cells from 3 (axes × k + i) on.
use Rattle.std.specs.Prelude.{Some}
use Prim.Native.Nat.{ℕ, zero, suc, ◌+◌, ◌*◌, ◌≤◌, ◌<◌}
use mathlib.Core.Path.{◌≡◌, refl, sym, ap, ap₂, ◌∙◌, subst}
use mathlib.Core.List.{List, [], ◌∷◌, ◌++◌, map, flatten}
use native.Mathlib.Omega.{arith}
use native.Mathlib.Nat.{zero-add, add-zero, add_comm, mul-zero, mul-suc, mul_assoc}
use lib.ListN.{get_or, length, length-append, length-map, get_or-append}
use Rattle.std.specs.Prelude.{slice_get}
use lib.Seq.{get_or-append-add}
use lib.IntN.{ℤ}
use Rattle.whole.proofs.Elements.{none-some, at-below, map_at}
use Rattle.model.specs.declared.Axis.{Axis}
use Rattle.model.specs.declared.Order.{Order}
use Rattle.model.specs.declared.Order.TheVariants.{Forwards, Backwards}
use Rattle.model.specs.planning.Rows.{PlannedAxis, planned_axis, cells, tabulate, row, row_at, table}

-- ---- lists of blocks of one length

module _ (b : ℕ) (f : ℕ → List ℤ) (even : (k : ℕ) → length (f k) ≡ b) where
  pub rows-length : (k m : ℕ) → length (flatten (tabulate f k m)) ≡ b * m
  unfolding flatten
  rows-length k zero = sym (mul-zero b)
  rows-length k (suc m) =
      length-append (f k) (flatten (tabulate f (suc k) m))
      ∙ ap₂ ◌+◌ (even k) (rows-length (suc k) m)
      ∙ add_comm b (b * m)
      ∙ sym (mul-suc b m)

  rows_at : (k m i r : ℕ) (d : ℤ) → i < m → r < b
      → get_or (flatten (tabulate f k m)) (b * i + r) d ≡ get_or (f (k + i)) r d
  unfolding flatten
  rows_at k zero i r d h q = absurd (omega arith)
  rows_at k (suc m) zero r d h q =
      ap (λ (j : ℕ). get_or (f k ++ flatten (tabulate f (suc k) m)) j d) e
      ∙ get_or-append (f k) (flatten (tabulate f (suc k) m)) d r (subst (λ (l : ℕ). r < l) (sym (even k)) q)
      ∙ ap (λ (j : ℕ). get_or (f j) r d) (sym (add-zero k))
    where
      e : b * 0 + r ≡ r
      e = omega (arith, mul-zero b)
  rows_at k (suc m) (suc i) r d h q =
      ap (λ (j : ℕ). get_or (f k ++ flatten (tabulate f (suc k) m)) j d) e
      ∙ get_or-append-add (f k) (flatten (tabulate f (suc k) m)) (b * i + r) d
      ∙ rows_at (suc k) m i r d (omega arith) q
      ∙ ap (λ (j : ℕ). get_or (f j) r d) next
    where
      e : b * suc i + r ≡ length (f k) + (b * i + r)
      e = omega (arith, mul-suc b i, even k)

      next : suc k + i ≡ k + suc i
      next = omega arith

module _ {A : Type 0} (b : ℕ) (f : A → List ℤ) (even : (a : A) → length (f a) ≡ b) where
  pub blocks-length : (l : List A) → length (flatten (map f l)) ≡ b * length l
  unfolding flatten
  blocks-length [] = sym (mul-zero b)
  blocks-length (a ∷ l) =
      length-append (f a) (flatten (map f l))
      ∙ ap₂ ◌+◌ (even a) (blocks-length l)
      ∙ add_comm b (b * length l)
      ∙ sym (mul-suc b (length l))

  blocks_at : (l : List A) (i r : ℕ) (d : ℤ) (a : A) → slice_get l i ≡ Some a → r < b
      → get_or (flatten (map f l)) (b * i + r) d ≡ get_or (f a) r d
  unfolding flatten
  blocks_at [] i r d a e q = absurd (none-some e)
  blocks_at (x ∷ l) zero r d a e q =
      ap (λ (j : ℕ). get_or (f x ++ flatten (map f l)) j d) start
      ∙ get_or-append (f x) (flatten (map f l)) d r (subst (λ (n : ℕ). r < n) (sym (even x)) q)
      ∙ ap (λ (y : A). get_or (f y) r d) (cc)
    where
      start : b * 0 + r ≡ r
      start = omega (arith, mul-zero b)
  blocks_at (x ∷ l) (suc i) r d a e q =
      ap (λ (j : ℕ). get_or (f x ++ flatten (map f l)) j d) next
      ∙ get_or-append-add (f x) (flatten (map f l)) (b * i + r) d
      ∙ blocks_at l i r d a e q
    where
      next : b * suc i + r ≡ length (f x) + (b * i + r)
      next = omega (arith, mul-suc b i, even x)

-- ---- the places of rows

-- a row of ticks 0 to n stands among them, and at its place stands the row of its tick
pub row-place : (o : Order) (n k : ℕ) → k ≤ n → row_at o n k ≤ n
row-place Forwards n k h = h
row-place Backwards n k h = omega arith

pub row_back : (o : Order) (n k : ℕ) → k ≤ n → row_at o n (row_at o n k) ≡ k
row_back Forwards n k h = refl
row_back Backwards n k h = omega arith

-- ---- the table

module _ (o : Order) (xs : List Axis) (n : ℕ) where
  ts : List PlannedAxis
  ts = map (planned_axis n) xs

  row-length : (k : ℕ) → length (row ts k) ≡ 3 * length xs
  unfolding ts
  row-length k = blocks-length 3 (cells k) (λ t. refl) ts ∙ ap (λ (l : ℕ). 3 * l) (length-map xs (planned_axis n))

  row_from : ℕ → List ℤ
  row_from j = row ts (row_at o n j)

  row-from-length : (j : ℕ) → length (row_from j) ≡ 3 * length xs
  unfolding row_from
  row-from-length j = row-length (row_at o n j)

  pub table-length : length (table o xs n) ≡ 3 * length xs * suc n
  unfolding ts row_from
  table-length = rows-length (3 * length xs) row_from row-from-length 0 (suc n)

  pub table_at : (i j k : ℕ) (x : Axis) (d : ℤ) → slice_get xs i ≡ Some x → j < 3 → k ≤ n
      → get_or (table o xs n) (3 * (length xs * row_at o n k + i) + j) d ≡ get_or (cells k (planned_axis n x)) j d
  unfolding ts row_from
  table_at i j k x d e hj hk =
      ap (λ (z : ℕ). get_or (table o xs n) z d) (place (row_at o n k))
      ∙ rows_at (3 * length xs) row_from row-from-length 0 (suc n) (row_at o n k) (3 * i + j) d
      (within (row-place o n k hk)) (omega (arith, at-below xs i x e))
      ∙ ap (λ (z : ℕ). get_or (row ts (row_at o n z)) (3 * i + j) d) (zero-add (row_at o n k))
      ∙ ap (λ (z : ℕ). get_or (row ts z) (3 * i + j) d) (row_back o n k hk)
      ∙ blocks_at 3 (cells k) (λ t. refl) ts i j d (planned_axis n x) (map_at (planned_axis n) xs i x e) hj
    where
      place : (r : ℕ) → 3 * (length xs * r + i) + j ≡ 3 * length xs * r + (3 * i + j)
      place r = omega (arith, mul_assoc 3 (length xs) r)

      within : {r : ℕ} → r ≤ n → r < suc n
      within h = omega arith
