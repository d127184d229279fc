-- A job whose axes are changed by a map, where nothing that the outcome reads of an axis tells the
-- two apart: tests, masks, arrivals and cells are the same.
use Prim.Native.Nat.{ℕ, zero, suc, ◌+◌, ◌*◌, ◌^◌, ◌≤◌}
use native.Mathlib.Omega.{arith}
use mathlib.Core.Path.{◌≡◌, refl, ap, ap₂, ◌∙◌}
use mathlib.Core.Bool.{Bool, true, false, not, ◌&&◌}
use Rattle.std.specs.Prelude.{Option, None, Some}
use mathlib.Core.List.{List, [], ◌∷◌, ◌++◌, map, flatten}
use lib.IntN.{ℤ}
use lib.Dec.{ltb}
use lib.ListN.{length, drop}
use Rattle.whole.specs.Integers.{nearest_quotient}
use Rattle.model.specs.declared.Axis.{Axis}
use Rattle.model.specs.declared.Order.{Order}
use Rattle.model.specs.declared.Order.TheVariants.{Forwards}
use Rattle.model.specs.planning.Windows.{in_windows, refused13}
use Rattle.model.specs.planning.Motion.{Tick, reachable}
use Rattle.model.specs.planning.Rows.{planned_axis, blend, divisor, row, row_at, part, cells, tabulate}
use Rattle.model.specs.planning.Job.{Job, JobAxis, axes_of, mask_where}
use Rattle.model.specs.planning.Outcome.{Outcome, refuse, all_reach, arrives, cells_needed, part_over, filled, arrived}
use Rattle.model.specs.planning.Admission.{first_axis, Tests, Admission, refused_at, admitted, tested}

-- two axes have the same cells where they have the same blends and the same divisor
pub cells-alike : (n k : ℕ) (x y : Axis)
    → ((f : Tick → ℤ) → blend (planned_axis n x) k f ≡ blend (planned_axis n y) k f) → divisor x ≡ divisor y
    → cells k (planned_axis n x) ≡ cells k (planned_axis n y)
cells-alike n k x y b d =
    λ i.
    nearest_quotient (b (λ s. s.position) i) (2 * d i) ∷ nearest_quotient (b (λ s. s.velocity) i) (d i)
    ∷ nearest_quotient (b (λ s. s.acceleration) i) (d i) ∷ []

module _ (F : Axis → Axis) where
  abbrev pub mapped : List JobAxis → List JobAxis
  mapped xs = map (λ x. record { number = x.number; axis = F x.axis }) xs

  abbrev pub mapped_job : Job → Job
  mapped_job j = record { mask = j.mask; asked = j.asked; axes = mapped j.axes; windows = j.windows }

  -- a test that does not tell the two apart, and a list of such
  abbrev pub Blind : (Axis → Bool) → Type 0
  Blind f = (x : Axis) → f (F x) ≡ f x

  abbrev pub AllBlind : Tests → Type 0
  AllBlind [] = Unit
  AllBlind (t ∷ ts) = Blind t.1 × AllBlind ts

  pub length-mapped : (l : List JobAxis) → length (mapped l) ≡ length l
  length-mapped [] = refl
  length-mapped (x ∷ l) = ap suc (length-mapped l)

  pub first-mapped : (f : Axis → Bool) → Blind f → (l : List JobAxis) → first_axis f (mapped l) ≡ first_axis f l
  first-mapped f h [] = refl
  first-mapped f h (x ∷ l) =
      ap₂ (λ (b : Bool) (o : Option ℕ). elim b as (λ _. Option ℕ) [ true ↦ Some x.number | false ↦ o ])
      (h x.axis) (first-mapped f h l)

  pub mask-mapped : (f : Axis → Bool) → Blind f → (l : List JobAxis) → mask_where f (mapped l) ≡ mask_where f l
  mask-mapped f h [] = refl
  mask-mapped f h (x ∷ l) =
      ap₂ (λ (b : Bool) (m : ℕ). elim b as (λ _. ℕ) [ true ↦ 2 ^ x.number + m | false ↦ m ])
      (h x.axis) (mask-mapped f h l)

  -- ---- an arrival

  module _ (n : ℕ) (reach : Blind (λ x. reachable x n)) where
    pub reach-mapped : (l : List JobAxis) → all_reach (mapped l) n ≡ all_reach l n
    reach-mapped [] = refl
    reach-mapped (x ∷ l) =
        ap₂ (λ (b c : Bool). elim b as (λ _. Bool) [ true ↦ c | false ↦ false ]) (reach x.axis) (reach-mapped l)

    pub arrives-mapped : (j : Job) → arrives (mapped_job j) n ≡ arrives j n
    arrives-mapped j = ap (λ (b : Bool). in_windows j.windows n && b) (reach-mapped j.axes)

  -- ---- the table

  module _ (n : ℕ) (same : (k : ℕ) (x : Axis) → cells k (planned_axis n (F x)) ≡ cells k (planned_axis n x)) where
    row-mapped : (l : List JobAxis) (k : ℕ)
        → row (map (planned_axis n) (map (λ x. x.axis) (mapped l))) k
        ≡ row (map (planned_axis n) (map (λ x. x.axis) l)) k
    unfolding flatten
    row-mapped [] k = refl
    row-mapped (x ∷ l) k = ap₂ (λ (c r : List ℤ). c ++ r) (same k x.axis) (row-mapped l k)

    part-mapped : (o : Order) (j : Job) (i c : ℕ) → part o (axes_of (mapped_job j)) n i c ≡ part o (axes_of j) n i c
    part-mapped o j i c =
        ap (λ (f : ℕ → List ℤ). flatten (tabulate f i c)) (λ m k. row-mapped j.axes (row_at o n k) m)

    axes-length : (l : List JobAxis) → length (map (λ x. x.axis) (mapped l)) ≡ length (map (λ x. x.axis) l)
    axes-length [] = refl
    axes-length (x ∷ l) = ap suc (axes-length l)

    pub over-mapped : (o : Order) (j : Job) (i c : ℕ) (lent : List ℤ)
        → part_over o (axes_of (mapped_job j)) n i c lent ≡ part_over o (axes_of j) n i c lent
    over-mapped o j i c lent =
        ap₂ (λ (t : List ℤ) (k : ℕ). t ++ drop (3 * k * c) lent) (part-mapped o j i c) (axes-length j.axes)

    pub filled-mapped : (j : Job) (lent : List ℤ) → filled (mapped_job j) n lent ≡ filled j n lent
    filled-mapped j lent = λ i. by-room (ltb (length lent) (cells_needed (length-mapped j.axes i) n))
        (over-mapped Forwards j 0 (suc n) lent i)
      where
        by-room : Bool → List ℤ → Outcome
        by-room b cs =
            elim b as (λ _. Outcome) [
              | true ↦ refuse 10 0 0 n lent
              | false ↦ record { number = 0; place = 0; mask = j.mask; arrival = n; cells = cs }
            ]

  -- an arrival asked for
  pub asked-mapped : (n : ℕ) → 1 ≤ n → Blind (λ x. reachable x n)
      → ((k : ℕ) (x : Axis) → cells k (planned_axis n (F x)) ≡ cells k (planned_axis n x))
      → (j : Job) (lent : List ℤ) → arrived (mapped_job j) n lent ≡ arrived j n lent
  asked-mapped zero h reach same j lent = absurd (omega arith)
  asked-mapped (suc n) h reach same j lent =
      λ i.
      elim (arrives-mapped (suc n) reach j i) as (λ _. Outcome) [
        | true ↦ filled-mapped (suc n) same j lent i
        | false ↦ refuse 8 0 (mask-mapped (λ x. not (reachable x (suc n))) (λ x. ap not (reach x)) j.axes i) 0 lent
      ]

  -- ---- the tests of the axes, and 13, of a call that goes on by f

  module _ {X : Type 0} (f : Admission → X) (j : Job) (same : f (admitted (mapped_job j)) ≡ f (admitted j)) where
    pub tested-mapped : (ts : Tests) → AllBlind ts → f (tested ts (mapped_job j)) ≡ f (tested ts j)
    tested-mapped [] b = go (refused13 j.windows)
      where
        by : Job → Option ℕ → Admission
        by i o = elim o [ Some p ↦ refused_at 13 p | None ↦ admitted i ]

        go : (o : Option ℕ) → f (by (mapped_job j) o) ≡ f (by j o)
        go (Some p) = refl
        go None = same
    tested-mapped (t ∷ ts) (b, bs) =
        ap (λ (o : Option ℕ). f (by (mapped_job j) o)) (first-mapped t.1 b j.axes)
        ∙ go (first_axis t.1 j.axes) (tested-mapped ts bs)
      where
        by : Job → Option ℕ → Admission
        by i o = elim o [ Some k ↦ refused_at t.0 k | None ↦ tested ts i ]

        go : (o : Option ℕ) → f (tested ts (mapped_job j)) ≡ f (tested ts j) → f (by (mapped_job j) o) ≡ f (by j o)
        go (Some k) h = refl
        go None h = h
