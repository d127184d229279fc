-- Demand 3 (docs/METHOD.md, 5.1): one claim about an accepted job, with all its axes, rows and
-- swing lists.
use Rattle.std.specs.Prelude.{ℕ, zero, suc, ◌+◌, ◌-◌, ◌*◌, ◌≤◌, ◌<◌, ◌≡◌, List, ℤ, pos, nat_abs, ◌+ℤ◌, ◌-ℤ◌, ◌*ℤ◌}
use Rattle.std.specs.Prelude.{length, get_or, take}
use Rattle.std.specs.Prelude.{slice_get}
use Rattle.model.specs.declared.Axis.{Axis}
use Rattle.std.specs.Prelude.{Some}
use Rattle.model.specs.declared.Order.{Order}
use Rattle.model.specs.planning.Quantities.{speed_limit, acceleration_limit, half_period, second_weight, as_moving}
use Rattle.model.specs.planning.Quantities.{twice_position_at, velocity_at}
use Rattle.whole.specs.Integers.{nearest_quotient}
use Rattle.model.specs.planning.Rows.{planned_axis, blend, divisor, row_at}
use Rattle.model.specs.planning.Outcome.{Input, call_in, input_axes, cells_needed}

-- ---- the cells of a table of `axes` axes, with the rows of ticks 0 to `last` in an
-- order: axis i of row k, by tick

pub record CellTable : Type 0 where
  pub order : Order
  pub axes : ℕ
  pub last : ℕ
  pub cells : List ℤ

abbrev pub cell_at : CellTable → ℕ → ℕ → ℕ → ℤ
cell_at g i j k = get_or g.cells (3 * (g.axes * row_at g.order g.last k + i) + j) (pos 0)

abbrev pub position_cell : CellTable → ℕ → ℕ → ℤ
position_cell g i k = cell_at g i 0 k

abbrev pub velocity_cell : CellTable → ℕ → ℕ → ℤ
velocity_cell g i k = cell_at g i 1 k

abbrev pub acceleration_cell : CellTable → ℕ → ℕ → ℤ
acceleration_cell g i k = cell_at g i 2 k

-- the first 3 × axes × (N + 1) cells of the lent table, as a table of the axes
-- xs with its rows in the order o
abbrev pub table_in : Order → List Axis → ℕ → List ℤ → CellTable
table_in o xs n lent = record { order = o; axes = length xs; last = n; cells = take (cells_needed (length xs) n) lent }

-- ---- swing lists and the sway left

-- entries w 0 to w m: a w(i + h) + b w(i) = 0 for every i from 0 to m − h
abbrev pub Swings : ℤ → ℤ → ℕ → ℕ → (ℕ → ℤ) → Type 0
Swings a b h m w = (i : ℕ) → i + h ≤ m → a *ℤ w (i + h) +ℤ b *ℤ w i ≡ pos 0

-- a swing list of the first rate, with A = 256 − B, or of the second, which is undamped
pub data Swing (x : Axis) (m : ℕ) (w : ℕ → ℤ) : Type 0 where
  first : zero < half_period x
      → Swings (pos (256 - second_weight x)) (pos (second_weight x)) (half_period x) m w → Swing x m w
  second : (d : ℕ) → x.second_sway ≡ Some d → Swings (pos 1) (pos 1) d m w → Swing x m w

-- no entry exceeds G in size
abbrev pub Bounded : ℕ → ℕ → (ℕ → ℤ) → Type 0
Bounded m G w = (i : ℕ) → i ≤ m → nat_abs (w i) ≤ G

-- a(k) less a(k − 1), which is zero before row 0
abbrev pub acceleration_change : (ℕ → ℤ) → ℕ → ℤ
acceleration_change a zero = a zero
acceleration_change a (suc k) = a (suc k) -ℤ a k

-- the sum over rows 0 to n of acceleration_change × w(m − k)
abbrev pub sway : (ℕ → ℤ) → (ℕ → ℤ) → ℕ → ℕ → ℤ
sway a w m zero = acceleration_change a zero *ℤ w m
sway a w m (suc n) = sway a w m n +ℤ acceleration_change a (suc n) *ℤ w (m - suc n)

-- ---- the claim, of one axis: x is axis i of the table g, and N the arrival

-- row N is on the target, d = N − t: 256 times its position is 128 times twice its position
pub record Lands (x : Axis) (i n : ℕ) (g : CellTable) : Type 0 where
  pub position : position_cell g i n ≡ pos 128 *ℤ twice_position_at (as_moving x.target n) (pos n)
  pub velocity : velocity_cell g i n ≡ pos 256 *ℤ velocity_at (as_moving x.target n) (pos n)
  pub acceleration : acceleration_cell g i n ≡ pos 256 *ℤ (as_moving x.target n).acceleration

-- row k carried on one tick misses row k + 1 by at most 3/2: twice the miss by at most 3
pub record Carries (i k : ℕ) (g : CellTable) : Type 0 where
  pub position : nat_abs
      (pos 2 *ℤ position_cell g i k +ℤ pos 2 *ℤ velocity_cell g i k +ℤ acceleration_cell g i k
      -ℤ pos 2 *ℤ position_cell g i (suc k)) ≤ 3
  pub velocity : nat_abs (pos 2 *ℤ (velocity_cell g i k +ℤ acceleration_cell g i k -ℤ velocity_cell g i (suc k))) ≤ 3

-- the acceleration of row k before it is rounded, times the divisor
abbrev pub exact_acceleration : Axis → ℕ → ℕ → ℤ
exact_acceleration x n k = blend (planned_axis n x) k (λ s. s.acceleration)

-- Each acceleration cell is the exact one, rounded once. The divisor times the sway left before
-- that rounding is 0, and as rounded it is at most N × G.
pub record SwayCancelled (x : Axis) (i n : ℕ) (g : CellTable) : Type 0 where
  pub once : (k : ℕ) → k ≤ n
      → acceleration_cell g i k ≡ nearest_quotient (exact_acceleration x n k) (divisor x)
  pub exact : (m : ℕ) (w : ℕ → ℤ) → n ≤ m → Swing x m w
      → sway (exact_acceleration x n) w m n ≡ pos 0
  pub rounded : (m G : ℕ) (w : ℕ → ℤ) → n ≤ m → Swing x m w → Bounded m G w
      → nat_abs (sway (acceleration_cell g i) w m n) ≤ n * G

-- ---- the claim

pub record Demand3 (o : Order) (xs : List Axis) (n : ℕ) (lent : List ℤ) : Type 0 where
  -- the table is the first 3 × axes × (N + 1) cells, which are there
  pub whole : cells_needed (length xs) n ≤ length lent
  pub lands : (i : ℕ) (x : Axis) → slice_get xs i ≡ Some x → Lands x i n (table_in o xs n lent)
  pub carries : (i k : ℕ) → i < length xs → k < n → Carries i k (table_in o xs n lent)
  pub sway : (i : ℕ) (x : Axis) → slice_get xs i ≡ Some x → SwayCancelled x i n (table_in o xs n lent)

-- ---- the limits: no velocity cell exceeds 256L in size and no acceleration cell 256M

pub record CellLimits (o : Order) (xs : List Axis) (n : ℕ) (lent : List ℤ) : Type 0 where
  pub velocities : (i k : ℕ) (x : Axis) → slice_get xs i ≡ Some x → k ≤ n
      → nat_abs (velocity_cell (table_in o xs n lent) i k) ≤ 256 * speed_limit x
  pub accelerations : (i k : ℕ) (x : Axis) → slice_get xs i ≡ Some x → k ≤ n
      → nat_abs (acceleration_cell (table_in o xs n lent) i k) ≤ 256 * acceleration_limit x

-- ---- the start: row 0 is on it exactly, so that the head starts with no jump

pub record ExactStart (o : Order) (xs : List Axis) (n : ℕ) (lent : List ℤ) : Type 0 where
  pub positions : (i : ℕ) (x : Axis) → slice_get xs i ≡ Some x
      → position_cell (table_in o xs n lent) i 0 ≡ pos 256 *ℤ x.start.position
  pub velocities : (i : ℕ) (x : Axis) → slice_get xs i ≡ Some x
      → velocity_cell (table_in o xs n lent) i 0 ≡ pos 256 *ℤ x.start.velocity

-- ---- all three hold of every call that returns number 0, from words or from typed values, in
-- either order, whatever the lent cells held

abbrev pub Demand3Holds : Type 0
Demand3Holds =
    (o : Order) (q : Input) (lent : List ℤ) → (call_in o q lent).number ≡ 0
    → Demand3 o (input_axes q) (call_in o q lent).arrival (call_in o q lent).cells

abbrev pub CellLimitsHold : Type 0
CellLimitsHold =
    (o : Order) (q : Input) (lent : List ℤ) → (call_in o q lent).number ≡ 0
    → CellLimits o (input_axes q) (call_in o q lent).arrival (call_in o q lent).cells

abbrev pub ExactStartHolds : Type 0
ExactStartHolds =
    (o : Order) (q : Input) (lent : List ℤ) → (call_in o q lent).number ≡ 0
    → ExactStart o (input_axes q) (call_in o q lent).arrival (call_in o q lent).cells
