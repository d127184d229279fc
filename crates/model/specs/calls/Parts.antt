-- Rows in parts (docs/METHOD.md, 4.8): a call for the rows from a first one on, as many whole rows
-- as the lent table holds. The theorem `parts-hold` says that they are rows of the table for which
-- demand 3 holds, and `parts-make-the-table` that the parts put together are that table.
use Rattle.std.specs.Prelude.{ℕ, suc, ◌-◌, ◌*◌, ◌/◌, min, true, false, List, eqb, ℤ, length}
use Rattle.model.specs.declared.Answer.{Answer}
use Rattle.model.specs.declared.Axis.{Axis}
use Rattle.model.specs.declared.Order.TheVariants.{Forwards}
use Rattle.model.specs.planning.Outcome.{Input, input_axes, part_over, answer_of}

-- how many whole rows of so many axes a table of so many cells holds, from row k on and up to row n
abbrev pub part_rows : ℕ → ℕ → ℕ → ℕ → ℕ
part_rows axes n k cells = min (cells / (3 * axes)) (suc n - k)

-- what a call for the rows from row k on gives: the answer before refusal 10, how many rows it
-- writes, and the lent table as it leaves it
pub record PartOutcome : Type 0 where
  pub answer : Answer
  pub rows : ℕ
  pub cells : List ℤ

-- an accepted job's rows k, k + 1, .. stand in front, as many whole rows as the lent table holds,
-- up to row N
abbrev pub part_accepted : Answer → List Axis → ℕ → List ℤ → PartOutcome
part_accepted a xs k lent =
    let c : ℕ = part_rows (length xs) a.arrival k (length lent) in
    record { answer = a; rows = c; cells = part_over Forwards xs a.arrival k c lent }

-- a refused job writes none
abbrev pub part_refused : Answer → List ℤ → PartOutcome
part_refused a lent = record { answer = a; rows = 0; cells = lent }

abbrev pub part_with : Answer → List Axis → ℕ → List ℤ → PartOutcome
part_with a xs k lent = elim (eqb a.number 0) [ true ↦ part_accepted a xs k lent | false ↦ part_refused a lent ]

unfoldable pub part_call : Input → ℕ → List ℤ → PartOutcome
part_call q k lent = part_with (answer_of q) (input_axes q) k lent
