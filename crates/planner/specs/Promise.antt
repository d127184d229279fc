-- What the calls for a table promise: `plan_words` and `plan_job` with the rows forwards,
-- `plan_words_backwards` and `plan_job_backwards` with the rows backwards. None asks anything of
-- its caller: any words, any job of typed values and any lent table will do.
use Rattle.std.specs.Prelude.{◌<◌, ◌≤◌, ◌≡◌, List, ℤ, length}
use Rattle.model.specs.declared.Answer.{Answer}
use Rattle.model.specs.declared.Job.{Job}
use Rattle.model.specs.declared.Order.{Order}
use Rattle.model.specs.declared.PartAnswer.{PartAnswer}
use Rattle.model.specs.planning.Job.{set_bits}
use Rattle.model.specs.planning.Refusals.{last_tick}
use Rattle.model.specs.planning.Outcome.{Input, typed, outcome_of, call_in, input_axes, cells_needed, answer_of}
use Rattle.theorems.specs.Verdict.{CallVerdict}
use Rattle.model.specs.planning.Demand.{Demand3, CellLimits, ExactStart}
use Rattle.model.specs.calls.Parts.{PartOutcome, part_call}
use Rattle.std.specs.declared.result.Result.{Result}
use Rattle.std.specs.declared.result.Result.TheVariants.{Ok, Err}
use Rattle.model.specs.declared.refusal.Refusal.{Refusal}
use Rattle.model.specs.planning.Told.{answer_to}
use Rattle.planner.specs.declared.Planned.{Planned}
use Rattle.planner.specs.declared.Wanted.{Wanted}
use Rattle.planner.specs.declared.Wanted.TheVariants.{Whole, From}

-- the rows are in the lent table: a caller may walk them by the mask and the arrival of the answer
pub record Fitted (r : Answer) (exit : List ℤ) : Type 0 where
  pub mask : r.mask < 64
  pub last : r.arrival ≤ last_tick
  -- three cells for each one in the mask and each tick from 0 to the arrival
  pub room : cells_needed (length (set_bits r.mask)) r.arrival ≤ length exit

-- o is the order of the rows, q is what the call was given, entry and exit are the lent table
-- before and after it, r is the answer
pub record Promise (o : Order) (q : Input) (entry : List ℤ) (r : Answer) (exit : List ℤ) : Type 0 where
  -- the number, the place, the mask, the arrival and every cell of the lent table, refused or not,
  -- are those of the definitions: an accepted job's rows stand in front and the cells after them
  -- are as they were; a refused job leaves every cell as it was
  pub outcome : outcome_of r exit ≡ call_in o q entry
  -- the number comes only in its named case, the first in checking order, with the place, the mask
  -- and the arrival that the case names; the case is said by the words' kinds and by the existence
  -- of velocity lists, and not by the decisions that the definitions compute
  pub verdict : CallVerdict o entry (outcome_of r exit) q
  -- an accepted job meets demand 3: all its axes land on their targets, its rows carry on to one
  -- another, and the sway is cancelled
  pub demand3 : r.number ≡ 0 → Demand3 o (input_axes q) r.arrival exit
  -- no velocity cell of it exceeds 256L in size and no acceleration cell 256M
  pub limits : r.number ≡ 0 → CellLimits o (input_axes q) r.arrival exit
  -- its row 0 is on the start exactly
  pub start : r.number ≡ 0 → ExactStart o (input_axes q) r.arrival exit
  pub fitted : r.number ≡ 0 → Fitted r exit

-- an answer with its number of rows, and the lent table as the call leaves it
abbrev pub part_outcome : PartAnswer → List ℤ → PartOutcome
part_outcome r cells = record { answer = r.answer; rows = r.rows; cells = cells }

-- the answer to a job, with its number of rows: of what is planned, or of its refusal
abbrev pub part_answer : Result Planned Refusal → PartAnswer
part_answer (Ok p) =
    record { answer = record { number = 0; place = 0; mask = p.mask; arrival = p.arrival }; rows = p.rows }
part_answer (Err r) = record { answer = answer_to r; rows = 0 }

-- what `plan_job_in` and `plan_words_in` promise: for all rows the promise above; for those
-- from row k on the answer, the number of rows and every cell of the definition, from which the
-- calls of `parts` promise the rest
abbrev pub PromiseIn : Wanted → Input → List ℤ → PartAnswer → List ℤ → Type 0
PromiseIn (Whole o) q entry r exit = Promise o q entry r.answer exit
PromiseIn (From k) q entry r exit = part_outcome r exit ≡ part_call q k entry

-- what `answer_of` promises: the answer to a job of typed values before refusal 10
pub record Answered (t : Job) (r : Answer) : Type 0 where
  pub is : r ≡ answer_of (typed t)
  pub last : r.arrival ≤ last_tick
