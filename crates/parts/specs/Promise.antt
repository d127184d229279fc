-- What the calls for a part of a table promise, `plan_job_part` and `plan_words_part`.
-- Neither asks anything of its caller: any words, any job of typed values, any first
-- row and any lent table will do.
use Rattle.std.specs.Prelude.{ℕ, ◌≤◌, ◌≡◌, List, ℤ, length}
use Rattle.model.specs.declared.PartAnswer.{PartAnswer}
use Rattle.model.specs.planning.Outcome.{Input, call, input_axes, cells_needed}
use Rattle.model.specs.calls.Parts.{part_call}
use Rattle.theorems.specs.Parts.{PartOf}
use Rattle.planner.specs.Promise.{part_outcome}

-- q is what the call was given and k the first row, entry and exit are the lent table
-- before and after it, r is the answer
pub record PartPromise (q : Input) (k : ℕ) (entry : List ℤ) (r : PartAnswer) (exit : List ℤ) : Type 0 where
  -- the answer, which is that of planning before refusal 10, the number of rows and every cell of
  -- the lent table are those of the definitions
  pub is : part_outcome r exit ≡ part_call q k entry
  -- where the number is 0, the same job with any table that has room for all rows is accepted with
  -- this arrival and meets demand 3, and the rows written are that table's rows from row k on
  pub whole : r.answer.number ≡ 0 → (lent : List ℤ)
      → cells_needed (length (input_axes q)) r.answer.arrival ≤ length lent
      → PartOf q r.answer.arrival k r.rows exit (call q lent)
