-- Parts of a table are its rows, and put together they are the table (docs/METHOD.md, 4.8).
use Rattle.std.specs.Prelude.{ℕ, suc, ◌+◌, ◌*◌, ◌≤◌, ◌≡◌, List, [], ◌∷◌, ◌++◌, ℤ, length, take, drop}
use Rattle.model.specs.declared.Order.TheVariants.{Forwards}
use Rattle.model.specs.planning.Outcome.{Outcome, Input, call, input_axes, cells_needed, answer_of}
use Rattle.model.specs.planning.Demand.{Demand3}
use Rattle.model.specs.calls.Parts.{PartOutcome, part_call}

-- ---- the claim: the part is one of the table

-- o is what the call for the whole table gives: it is accepted with arrival n and meets demand 3,
-- and c of its rows, from row k on, stand in front of the cells
pub record PartOf (q : Input) (n k c : ℕ) (cells : List ℤ) (o : Outcome) : Type 0 where
  pub number : o.number ≡ 0
  pub arrival : o.arrival ≡ n
  pub demand3 : Demand3 Forwards (input_axes q) n o.cells
  pub rows : take (3 * length (input_axes q) * c) cells
      ≡ take (3 * length (input_axes q) * c) (drop (3 * length (input_axes q) * k) o.cells)

-- it holds of every call that returns number 0, for any table with room for all rows
abbrev pub PartsHold : Type 0
PartsHold =
    (q : Input) (k : ℕ) (lent whole : List ℤ) → (answer_of q).number ≡ 0
    → cells_needed (length (input_axes q)) (answer_of q).arrival ≤ length whole
    → PartOf q (answer_of q).arrival k (part_call q k lent).rows (part_call q k lent).cells (call q whole)

-- ---- the parts put together: calls one after the other, each with a table of its own, of any
-- size, and from the row after the last one that was written

-- the row after the last one that they write, from row k on
abbrev pub next_row : Input → ℕ → List (List ℤ) → ℕ
next_row q k [] = k
next_row q k (lent ∷ lents) = next_row q (k + (part_call q k lent).rows) lents

-- the cells of the rows that they write, in a row
abbrev pub parts_written : Input → ℕ → List (List ℤ) → List ℤ
parts_written q k [] = []
parts_written q k (lent ∷ lents) =
    let p : PartOutcome = part_call q k lent in
    take (3 * length (input_axes q) * p.rows) p.cells ++ parts_written q (k + p.rows) lents

-- however rows 0 to N are cut into parts, the parts are the table that the call for all
-- rows writes, and meet demand 3
abbrev pub PartsMakeTheTable : Type 0
PartsMakeTheTable =
    (q : Input) (lents : List (List ℤ)) (whole : List ℤ) → (answer_of q).number ≡ 0
    → next_row q 0 lents ≡ suc (answer_of q).arrival
    → length whole ≡ cells_needed (length (input_axes q)) (answer_of q).arrival
    → (parts_written q 0 lents ≡ (call q whole).cells)
    × Demand3 Forwards (input_axes q) (answer_of q).arrival (parts_written q 0 lents)
