-- The cells of a plan's rows, as far as they are written: in the table the first k rows from a
-- place on, in an order, and in a row the axes before axis i.
use mathlib.Core.Path.{◌≡◌, refl, sym, ap, ◌∙◌}
use Rattle.theorems.proofs.tables.CellPlaces.{blocks-length}
use Rattle.theorems.proofs.tables.CellPlaces as Places
use Rattle.theorems.proofs.tables.Reversed.{tabulate-more}
use mathlib.Core.List.{List, [], ◌∷◌, ◌++◌, map, append_assoc, append-nil, map-append, flatten}
use Prim.Native.Nat.{ℕ, ◌+◌, ◌*◌, ◌<◌, ◌≤◌}
use native.Mathlib.Numerals.{add-one}
use lib.IntN.{ℤ}
use lib.ListN.{length, get_or, take}
use lib.Seq.{take-suc, take-length, length-take-le}
use Rattle.model.specs.declared.Order.{Order}
use Rattle.model.specs.planning.Rows.{tabulate, row_at}
use Rattle.planned.specs.declared.AxisPlan.{AxisPlan}
use Rattle.rows.specs.Plans.{unset_plan}
use Rattle.blended.specs.BlendedStates.{axis_cells}
use Rattle.rows.specs.Table.{plan_row}

flatten-append : (l m : List (List ℤ)) → flatten (l ++ m) ≡ flatten l ++ flatten m
unfolding flatten
flatten-append [] m = refl
flatten-append (x ∷ l) m =
    ap (λ (r : List ℤ). x ++ r) (flatten-append l m) ∙ sym (append_assoc x (flatten l) (flatten m))

-- the last of a list of lists
flatten-last : (l : List (List ℤ)) (m : List ℤ) → flatten (l ++ (m ∷ [])) ≡ flatten l ++ m
unfolding flatten
flatten-last l m = flatten-append l (m ∷ []) ∙ ap (λ (r : List ℤ). flatten l ++ r) (append-nil m)

-- ---- in a row

unfoldable pub row_to : List AxisPlan → ℕ → ℕ → List ℤ
row_to ps k i = flatten (map (axis_cells k) (take i ps))

module _ (ps : List AxisPlan) (k : ℕ) where
  pub row-none : row_to ps k 0 ≡ []
  unfolding row_to flatten
  row-none = refl

  pub row_more : (i : ℕ) → i < length ps → row_to ps k i ++ axis_cells k (get_or ps i unset_plan) ≡ row_to ps k (i + 1)
  unfolding row_to
  row_more i h =
      sym (flatten-last (map (axis_cells k) (take i ps)) (axis_cells k (get_or ps i unset_plan)))
      ∙ ap flatten (sym (map-append (axis_cells k) (take i ps) (get_or ps i unset_plan ∷ [])))
      ∙ ap (λ (l : List AxisPlan). flatten (map (axis_cells k) l)) (sym (take-suc ps i unset_plan h))
      ∙ ap (λ (j : ℕ). flatten (map (axis_cells k) (take j ps))) (sym (add-one i))

  pub row-all : (i : ℕ) → i ≡ length ps → row_to ps k i ≡ plan_row ps k
  unfolding row_to
  row-all i e = ap (λ (l : List AxisPlan). flatten (map (axis_cells k) l)) (ap (λ (j : ℕ). take j ps) e
      ∙ take-length ps)

  pub row-long : (i : ℕ) → i ≤ length ps → length (row_to ps k i) ≡ 3 * i
  unfolding row_to
  row-long i h = blocks-length 3 (axis_cells k) (λ p. refl) (take i ps) ∙ ap (λ (j : ℕ). 3 * j) (length-take-le i ps h)

-- ---- in the table

-- the row at place i of the rows 0 to n, and the first k of them from place j on
abbrev row_of : Order → List AxisPlan → ℕ → ℕ → List ℤ
row_of o ps n i = plan_row ps (row_at o n i)

unfoldable pub rows_to : Order → List AxisPlan → ℕ → ℕ → ℕ → List ℤ
rows_to o ps n j k = flatten (tabulate (row_of o ps n) j k)

module _ (o : Order) (ps : List AxisPlan) (n j : ℕ) where
  pub rows_none : rows_to o ps n j 0 ≡ []
  unfolding rows_to flatten
  rows_none = refl

  pub rows_more : (k : ℕ) → rows_to o ps n j k ++ plan_row ps (row_at o n (j + k)) ≡ rows_to o ps n j (k + 1)
  unfolding rows_to
  rows_more k =
      sym (flatten-last (tabulate (row_of o ps n) j k) (row_of o ps n (j + k)))
      ∙ ap flatten (sym (tabulate-more (row_of o ps n) j k))
      ∙ ap (λ (i : ℕ). flatten (tabulate (row_of o ps n) j i)) (sym (add-one k))

  pub rows-length : (k : ℕ) → length (rows_to o ps n j k) ≡ 3 * length ps * k
  unfolding rows_to
  rows-length k =
      Places.rows-length (3 * length ps) (row_of o ps n)
      (λ i. blocks-length 3 (axis_cells (row_at o n i)) (λ p. refl) ps) j k

  -- all rows
  pub rows_all : (c k : ℕ) → k ≡ c → rows_to o ps n j k ≡ flatten (tabulate (row_of o ps n) j c)
  unfolding rows_to
  rows_all c k e = ap (λ (i : ℕ). flatten (tabulate (row_of o ps n) j i)) e
