-- Planning between servo turns (docs/METHOD.md, 8.4): the search for a common arrival from a
-- first candidate on, with a budget of candidates, and its call. What a report says, and what
-- calls that go on from spent come to.
use Rattle.std.specs.Prelude.{ℕ, suc, ◌+◌, ◌-◌, Bool, true, false, ◌&&◌, ltb, leb}
use Rattle.std.specs.Prelude.{Option, None, Some}
use Rattle.model.specs.declared.Report.{Report}
use Rattle.model.specs.declared.Report.TheVariants.{Found, Spent, Nothing}
use Rattle.model.specs.declared.SearchReport.{SearchReport}
use Rattle.model.specs.declared.SearchAnswer.{SearchAnswer}
use Rattle.model.specs.planning.Job.{Job}
use Rattle.model.specs.planning.Refusals.{last_tick}
use Rattle.model.specs.planning.Admission.{Input, axis_refusals, Admission, refused_at, admitted, Rules, admission}
use Rattle.model.specs.planning.Outcome.{least_from, arrives}

-- ---- the search for the least tick that passes a test

-- how many candidates there are from a tick on, up to 4,096: from 4,097 on none
abbrev pub candidates : ℕ → ℕ
candidates first = suc last_tick - first

-- how many of them are within a budget
abbrev pub within_budget : ℕ → ℕ → ℕ
within_budget budget first = elim (ltb budget (candidates first)) [ true ↦ budget | false ↦ candidates first ]

-- Nothing was found. Where a candidate is left the budget is spent, and all of it was tried; else
-- there is none, and all that were left were tried.
abbrev pub not_found : ℕ → ℕ → Bool → SearchReport
not_found first budget true = record { report = Spent (first + budget); tried = budget }
not_found first budget false = record { report = Nothing; tried = candidates first }

-- the tick found less the first plus one were tried
abbrev pub report_of : ℕ → ℕ → Option ℕ → SearchReport
report_of first budget (Some n) = record { report = Found n; tried = n - first + 1 }
report_of first budget None = not_found first budget (ltb budget (candidates first))

-- the least from the first on, up to 4,096 and within the budget
unfoldable pub search_from : (ℕ → Bool) → ℕ → ℕ → SearchReport
search_from test first budget = report_of first budget (least_from test first (within_budget budget first))

-- ---- the call

-- a refusal: nothing is tried
abbrev pub refuse_search : ℕ → ℕ → SearchAnswer
refuse_search number place =
    record { number = number; place = place; mask = 0; arrival = 0; report = Nothing; tried = 0 }

-- the tick found, or 0
abbrev pub found_tick : Report → ℕ
found_tick (Found n) = n
found_tick (Spent next) = 0
found_tick Nothing = 0

abbrev pub search_answer : ℕ → SearchReport → SearchAnswer
search_answer mask s =
    record { number = 0; place = 0; mask = mask; arrival = found_tick s.report; report = s.report; tried = s.tried }

-- 18, a first candidate of 0 or above 4,097; or the search for a tick that every axis reaches and
-- that fits a window where the job brings some
abbrev pub first_allowed : ℕ → Bool
first_allowed first = ltb 0 first && leb first (suc last_tick)

abbrev pub first_checked : Job → ℕ → ℕ → SearchAnswer
first_checked j first budget =
    elim (first_allowed first) [
      | true ↦ search_answer j.mask (search_from (arrives j) first budget)
      | false ↦ refuse_search 18 0
    ]

-- a job with another asked arrival
abbrev pub asking : ℕ → Job → Job
asking n j = record { mask = j.mask; asked = n; axes = j.axes; windows = j.windows }

-- the asked arrival is read as 0, so that 3 never comes
abbrev pub search_rules : Rules
search_rules = record { reads = asking 0; tests = λ asked. axis_refusals }

abbrev pub search_after : ℕ → ℕ → Admission → SearchAnswer
search_after first budget (refused_at n p) = refuse_search n p
search_after first budget (admitted j) = first_checked j first budget

unfoldable pub search_call : Input → ℕ → ℕ → SearchAnswer
search_call q first budget = search_after first budget (admission search_rules q)
