-- Rows in either order, and position sums taken from the landing end (docs/METHOD.md, 4.7).
use Rattle.std.specs.Prelude.{Some}
use Rattle.std.specs.Prelude.{ℕ, zero, suc, ◌-◌, ◌*◌, ◌≤◌, ◌<◌, List, ℤ, pos, ◌-ℤ◌, ◌*ℤ◌, ◌≡◌, length}
use Rattle.model.specs.declared.Axis.{Axis}
use Rattle.model.specs.declared.Order.{Order}
use Rattle.model.specs.declared.Order.TheVariants.{Forwards, Backwards}
use Rattle.whole.specs.Integers.{nearest_quotient}
use Rattle.model.specs.planning.Quantities.{as_moving, twice_position_at}
use Rattle.std.specs.Prelude.{slice_get}
use Rattle.model.specs.planning.Rows.{planned_axis, blend, divisor}
use Rattle.model.specs.planning.Refusals.{Plannable}
use Rattle.model.specs.planning.Outcome.{Input, call, call_in, input_axes}
use Rattle.model.specs.planning.Demand.{cell_at, position_cell, table_in}

-- ---- the position sums taken from the landing end (docs/METHOD.md, 4.7), for the rows that begin
-- there

-- The exact position of row n − i, times 2 × divisor as in `cells`: at the arrival it is
-- the target's, 256 times which is 128 times twice it; each tick back takes off the
-- velocities at the tick's two ends. The theorem `sums-from-landing` says that these are
-- the positions that are summed from the start.
abbrev pub from_landing : Axis → ℕ → ℕ → ℤ
from_landing x n zero = pos (2 * divisor x) *ℤ (pos 128 *ℤ twice_position_at (as_moving x.target n) (pos n))
from_landing x n (suc i) =
    from_landing x n i -ℤ blend (planned_axis n x) (n - i) (λ s. s.velocity)
    -ℤ blend (planned_axis n x) (n - suc i) (λ s. s.velocity)

-- ---- and each row is the forward call's row for that tick

abbrev pub SameRows : Type 0
SameRows =
    (q : Input) (lent : List ℤ) → (call q lent).number ≡ 0 → (i j k : ℕ) → i < length (input_axes q)
    → j < 3 → k ≤ (call q lent).arrival
    → cell_at (table_in Backwards (input_axes q) (call q lent).arrival (call_in Backwards q lent).cells) i j k
    ≡ cell_at (table_in Forwards (input_axes q) (call q lent).arrival (call q lent).cells) i j k

-- ---- the position sums taken from the landing end are those taken from the start, of every axis
-- that can be planned for arrival n and every row

abbrev pub SumsFromLanding : Type 0
SumsFromLanding = (x : Axis) (n : ℕ) → Plannable x n → (i : ℕ) → i ≤ n
    → from_landing x n i ≡ blend (planned_axis n x) (n - i) (λ s. s.position)

-- so each position cell, in either order, is the sum from the landing end rounded once
abbrev pub CellsFromLanding : Type 0
CellsFromLanding =
    (o : Order) (q : Input) (lent : List ℤ) → (call_in o q lent).number ≡ 0
    → (i k : ℕ) (x : Axis) → slice_get (input_axes q) i ≡ Some x → k ≤ (call_in o q lent).arrival
    → position_cell (table_in o (input_axes q) (call_in o q lent).arrival (call_in o q lent).cells) i k
    ≡ nearest_quotient (from_landing x (call_in o q lent).arrival ((call_in o q lent).arrival - k)) (2 * divisor x)
