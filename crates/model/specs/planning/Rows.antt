-- The blend, the rows and the cells (docs/METHOD.md, section 4).
use Rattle.std.specs.Prelude.{ℕ, zero, suc, ◌+◌, ◌-◌, ◌*◌, true, false, ℤ, pos, ◌+ℤ◌, ◌*ℤ◌, ltb, get_or}
use mathlib.Core.List.{List, [], ◌∷◌, map, flatten}
use Rattle.model.specs.declared.Axis.{Axis}
use Rattle.std.specs.Prelude.{Option, None, Some}
use Rattle.model.specs.declared.Order.{Order}
use Rattle.model.specs.declared.Order.TheVariants.{Forwards, Backwards}
use Rattle.whole.specs.Integers.{nearest_quotient}
use Rattle.model.specs.planning.Quantities.{half_period, second_weight, finer}
use Rattle.model.specs.planning.Motion.{Tick, planned, earlier}

-- an axis with its planned motion
pub record PlannedAxis : Type 0 where
  pub axis : Axis
  pub ticks : List Tick

abbrev pub planned_axis : ℕ → Axis → PlannedAxis
planned_axis n x = record { axis = x; ticks = planned x n }

-- the planned motion at k, and at k − d
abbrev pub tick_at : PlannedAxis → ℕ → Tick
tick_at t k = get_or t.ticks k (earlier t.axis 0)

abbrev pub tick_back : PlannedAxis → ℕ → ℕ → Tick
tick_back t k d = elim (ltb k d) [ true ↦ earlier t.axis (d - k) | false ↦ tick_at t (k - d) ]

-- 256 times the value of one blend at k − d: A × planned at k − d + B × planned at k − d − h
abbrev pub blend_once : PlannedAxis → ℕ → ℕ → (Tick → ℤ) → ℤ
blend_once t k d f =
    let b : ℕ = second_weight t.axis in
    pos (256 - b) *ℤ f (tick_back t k d) +ℤ pos b *ℤ f (tick_back t k (d + half_period t.axis))

-- the blend, applied once more with equal weights and the delay h₂ where the pole has a second
-- sway; and what its weights add up to
abbrev pub blend_by : Option ℕ → PlannedAxis → ℕ → (Tick → ℤ) → ℤ
blend_by None t k f = blend_once t k 0 f
blend_by (Some d) t k f = blend_once t k 0 f +ℤ blend_once t k d f

abbrev pub weights_by : Option ℕ → ℕ
weights_by None = 256
weights_by (Some d) = 512

abbrev pub blend : PlannedAxis → ℕ → (Tick → ℤ) → ℤ
blend t k f = blend_by t.axis.second_sway t k f

-- what the blend is divided by to give fine steps: its weights, times the grid steps in a fine step
abbrev pub divisor : Axis → ℕ
divisor x = weights_by x.second_sway * finer x

-- the three cells of row k: a planned position is in half steps, so its divisor is twice as large
abbrev pub cells : ℕ → PlannedAxis → List ℤ
cells k t =
    nearest_quotient (blend t k (λ s. s.position)) (2 * divisor t.axis)
    ∷ nearest_quotient (blend t k (λ s. s.velocity)) (divisor t.axis)
    ∷ nearest_quotient (blend t k (λ s. s.acceleration)) (divisor t.axis)
    ∷ []

-- f k, f (k + 1), .. : n of them
abbrev pub tabulate {ℓ} : {A : Type ℓ} → (ℕ → A) → ℕ → ℕ → List A
tabulate f k zero = []
tabulate f k (suc n) = f k ∷ tabulate f (suc k) n

-- within a row axes ascend
abbrev pub row : List PlannedAxis → ℕ → List ℤ
row ts k = flatten (map (cells k) ts)

-- the tick of the row that stands at place j, of rows 0 to n: row 0 first and row n last, or row n
-- first and row 0 last (docs/METHOD.md, 4.7). It is also the place of the row of tick j
abbrev pub row_at : Order → ℕ → ℕ → ℕ
row_at Forwards n j = j
row_at Backwards n j = n - j

-- the rows at places j, j + 1, .. of the rows 0 to N, in an order: c of them
abbrev pub part : Order → List Axis → ℕ → ℕ → ℕ → List ℤ
part o xs n j c =
    let ts : List PlannedAxis = map (planned_axis n) xs in
    flatten (tabulate (λ i. row ts (row_at o n i)) j c)

-- all of them
abbrev pub table : Order → List Axis → ℕ → List ℤ
table o xs n = part o xs n 0 (suc n)
