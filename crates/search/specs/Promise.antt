-- What the calls for a search promise, `search_job` and `search_words`. Neither asks anything of
-- its caller. What calls that go on from spent come to is said of the definition, for every job:
-- `continuing` and `within-4096` (`crates/theorems/proofs/calls/SearchCalls.antt`).
use Rattle.std.specs.Prelude.{ℕ, ◌≡◌}
use Rattle.std.specs.Prelude.{Result, Ok, Err}
use Rattle.model.specs.declared.Report.TheVariants.{Found}
use Rattle.model.specs.declared.SearchAnswer.{SearchAnswer}
use Rattle.model.specs.declared.SearchReport.{SearchReport}
use Rattle.model.specs.declared.refusal.Refusal.{Refusal}
use Rattle.model.specs.planning.Outcome.{Input, input_job}
use Rattle.model.specs.planning.Told.{number_of, place_of}
use Rattle.model.specs.calls.Search.{search_call, search_answer, refuse_search}
use Rattle.theorems.specs.Search.{SearchSays, Planned, SearchCallVerdict}

-- the answer of a search of a job with a mask, or of its first refusal
abbrev pub answer_of : ℕ → Result SearchReport Refusal → SearchAnswer
answer_of mask (Ok found) = search_answer mask found
answer_of mask (Err x) = refuse_search (number_of x) (place_of x)

-- q is what the call was given, first the first candidate, r the answer
pub record SearchPromise (q : Input) (first budget : ℕ) (r : SearchAnswer) : Type 0 where
  -- number, place, mask, arrival, report and the number tried are those of the definitions
  pub is : r ≡ search_call q first budget
  -- the number comes only in its named case, said of the words or of the mask,
  -- and of the job that they bring
  pub verdict : SearchCallVerdict q first budget r
  -- number 0: what the report and the number tried say of the job, by the existence of a list
  pub says : r.number ≡ 0 → SearchSays (input_job q) first budget r.report r.tried
  -- a tick that was found can be asked for: the job is then accepted with any table
  -- that has room, and meets demand 3
  pub planned : r.number ≡ 0 → (n : ℕ) → r.report ≡ Found n → Planned (input_job q) n
