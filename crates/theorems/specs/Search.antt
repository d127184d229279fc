-- What a report of a search says, and what calls that go on from spent come to (docs/METHOD.md,
-- 8.4).
use Rattle.std.specs.Prelude.{ℕ, suc, ◌+◌, ◌-◌, ◌≤◌, ◌<◌, ◌≡◌, List, [], ◌∷◌, ◌⊎◌, ℤ, length}
use Rattle.model.specs.planning.Job.{Job, axes_of}
use Rattle.model.specs.planning.Refusals.{last_tick}
use Rattle.model.specs.declared.Order.TheVariants.{Forwards}
use Rattle.model.specs.declared.Report.{Report}
use Rattle.model.specs.declared.Report.TheVariants.{Found, Spent, Nothing}
use Rattle.model.specs.declared.SearchAnswer.{SearchAnswer}
use Rattle.model.specs.planning.Admission.{Input, axis_refusals, Tests}
use Rattle.model.specs.planning.Outcome.{refuse, accept, cells_needed, job_outcome}
use Rattle.theorems.specs.Verdict.{Arrives, Passing, ByInput}
use Rattle.model.specs.planning.Demand.{Demand3}
use Rattle.model.specs.calls.Search.{refuse_search, asking, search_call}

-- their numbers, and 13
abbrev pub numbers_of : Tests → List ℕ
numbers_of [] = 13 ∷ []
numbers_of (t ∷ ts) = t.0 ∷ numbers_of ts

abbrev pub OneOf : List ℕ → ℕ → Type 0
OneOf [] n = ⊥
OneOf (k ∷ ks) n = (n ≡ k) ⊎ OneOf ks n

-- ---- calls that go on from spent

-- one undivided search: no more than 4,096 candidates are left
abbrev pub undivided : Input → ℕ → SearchAnswer
undivided q first = search_call q first last_tick

-- an answer after k candidates that were tried before
abbrev pub after : ℕ → SearchAnswer → SearchAnswer
after k a =
    record {
      number = a.number;
      place = a.place;
      mask = a.mask;
      arrival = a.arrival;
      report = a.report;
      tried = k + a.tried;
    }

-- Calls with one budget after the other, each from the next candidate of the one before, as long as
-- they are spent: the last answer, with the sum of what was tried. Past the last budget a call with
-- budget 0, which tries nothing, hands its candidate back.
unfoldable pub continued : Input → List ℕ → ℕ → SearchAnswer
continued q [] first = search_call q first 0
continued q (b ∷ bs) first =
    let a : SearchAnswer = search_call q first b in
    elim a.report [ Found n ↦ a | Spent next ↦ after a.tried (continued q bs next) | Nothing ↦ a ]

-- What they come to: the answer of one undivided search; or they are spent, and one undivided
-- search is what they tried and then one from their next candidate.
pub data Continues (q : Input) (first : ℕ) (a : SearchAnswer) : Type 0 where
  ended : a ≡ undivided q first → Continues q first a
  goes_on : (next : ℕ) → next ≤ 4096 → next ≡ first + a.tried → a.report ≡ Spent next
      → undivided q first ≡ after a.tried (undivided q next)
      → Continues q first a

-- whatever the budgets are, of every search that is not refused
abbrev pub ContinuingIsUndivided : Type 0
ContinuingIsUndivided = (q : Input) (first : ℕ) (budgets : List ℕ) → (undivided q first).number ≡ 0
    → Continues q first (continued q budgets first)

abbrev pub AtLeast1 : List ℕ → Type 0
AtLeast1 [] = Unit
AtLeast1 (b ∷ bs) = (1 ≤ b) × AtLeast1 bs

-- how many calls that are, the one with budget 0 past the last budget among them
unfoldable pub calls_made : Input → List ℕ → ℕ → ℕ
calls_made q [] first = 1
calls_made q (b ∷ bs) first =
    elim (search_call q first b).report [ Found n ↦ 1 | Spent next ↦ suc (calls_made q bs next) | Nothing ↦ 1 ]

-- they end as one undivided search does, and are at most 4,096
pub record Within4096 (q : Input) (budgets : List ℕ) (first : ℕ) : Type 0 where
  pub ends : continued q budgets first ≡ undivided q first
  pub calls : calls_made q budgets first ≤ 4096

-- with budgets of at least 1, where there are 4,096 of them or more
abbrev pub EndsWithin4096 : Type 0
EndsWithin4096 = (q : Input) (first : ℕ) (budgets : List ℕ)
    → (undivided q first).number ≡ 0 → AtLeast1 budgets → 4096 ≤ length budgets
    → Within4096 q budgets first

-- ---- what a report says of a job, a first candidate and a budget, by the existence of a list

pub data SearchSays (j : Job) (first budget : ℕ) : Report → ℕ → Type 0 where
  -- the least tick from the first on, up to 4,096 and within the budget, that every axis reaches
  -- and that fits a window where the job brings some
  found : (n : ℕ) → first ≤ n → n ≤ 4096 → n < first + budget → Arrives j n
      → ((k : ℕ) → first ≤ k → k < n → Arrives j k → ⊥)
      → SearchSays j first budget (Found n) (n - first + 1)
  -- the budget is used up, there is no such tick, and a candidate up to 4,096 is left
  spent : first + budget ≤ 4096 → ((k : ℕ) → first ≤ k → k < first + budget → Arrives j k → ⊥)
      → SearchSays j first budget (Spent (first + budget)) budget
  -- there is no such tick, and no candidate is left
  nothing : 4096 < first + budget → ((k : ℕ) → first ≤ k → k ≤ 4096 → Arrives j k → ⊥)
      → SearchSays j first budget Nothing (4097 - first)

-- the job with tick n asked for is accepted with any table that has room, and its table meets
-- demand 3
pub record Planned (j : Job) (n : ℕ) : Type 0 where
  pub accepted : (lent : List ℤ) → cells_needed (length (axes_of j)) n ≤ length lent
      → job_outcome (asking n j) lent ≡ accept j n lent
  pub demand3 : (lent : List ℤ) → cells_needed (length (axes_of j)) n ≤ length lent
      → Demand3 Forwards (axes_of j) n (job_outcome (asking n j) lent).cells

-- ---- what each number says of a job whose mask and words passed

pub data SearchVerdict (j : Job) (first budget : ℕ) (a : SearchAnswer) : Type 0 where
  -- refused by the number of a test of an axis or by 13, as the job that asks for its
  -- least arrival is, whatever is lent
  refused_as : (n p : ℕ) → OneOf (numbers_of axis_refusals) n
      → ((lent : List ℤ) → job_outcome (asking 0 j) lent ≡ refuse n p 0 0 lent) → a ≡ refuse_search n p
      → SearchVerdict j first budget a
  refused18 : Passing (asking 0 j) → (first ≡ 0) ⊎ (4097 < first) → a ≡ refuse_search 18 0
      → SearchVerdict j first budget a
  reports : Passing (asking 0 j) → 1 ≤ first → first ≤ 4097 → a.number ≡ 0
      → SearchSays j first budget a.report a.tried
      → ((n : ℕ) → a.report ≡ Found n → Planned j n) → SearchVerdict j first budget a

-- ---- the calls

-- 1, 2 and 14 come where a call for a table is refused by them, said of the words and the mask
abbrev pub SearchCallVerdict : Input → ℕ → ℕ → SearchAnswer → Type 0
SearchCallVerdict q first budget a = ByInput (λ n p. a ≡ refuse_search n p) (λ j. SearchVerdict j first budget a) q
