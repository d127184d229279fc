-- What a call for a table gives, from words and from typed values (docs/METHOD.md, section 7, and
-- the common arrival of 3.6): its answer and the lent table as it leaves it, with the rows in
-- either order (4.7); and the answer to a call before refusal 10, which no table is needed for.
use Rattle.std.specs.Prelude.{ℕ, zero, suc, ◌*◌, Bool, true, false, not, ◌&&◌, List, [], ◌∷◌, ◌++◌, ℤ, eqb, ltb}
use Rattle.std.specs.Prelude.{length, drop}
use Rattle.std.specs.Prelude.{Option, None, Some}
use Rattle.model.specs.declared.Answer.{Answer}
use Rattle.model.specs.declared.Axis.{Axis}
use Rattle.model.specs.declared.Order.{Order}
use Rattle.model.specs.declared.Order.TheVariants.{Forwards, Backwards}
use Rattle.model.specs.planning.Motion.{reachable}
use Rattle.model.specs.planning.Rows.{part}
use Rattle.model.specs.planning.Windows.{in_windows}
use Rattle.model.specs.planning.Job.{Job, JobAxis, axes_of, mask_where}
use Rattle.model.specs.planning.Refusals.{last_tick}
use Rattle.model.specs.planning.Admission.{Admission, refused_at, admitted, Rules, planning_rules, job_admission}
use Rattle.model.specs.planning.Admission.{admission}
-- what a call is given
pub use Rattle.model.specs.planning.Admission.{Input, words, typed, input_job, input_axes}

pub record Outcome : Type 0 where
  pub number : ℕ
  pub place : ℕ
  pub mask : ℕ
  pub arrival : ℕ
  -- the lent table as the call leaves it
  pub cells : List ℤ

-- an answer, and the lent table as the call leaves it
abbrev pub outcome_of : Answer → List ℤ → Outcome
outcome_of r cells = record { number = r.number; place = r.place; mask = r.mask; arrival = r.arrival; cells = cells }

-- the answer of an outcome
abbrev pub answer_in : Outcome → Answer
answer_in o = record { number = o.number; place = o.place; mask = o.mask; arrival = o.arrival }

-- a refusal leaves the lent table as it was
abbrev pub refuse : ℕ → ℕ → ℕ → ℕ → List ℤ → Outcome
refuse n p m a lent = record { number = n; place = p; mask = m; arrival = a; cells = lent }

-- ---- arrivals

-- the least of n, n + 1, .. that passes a test, of count candidates
abbrev pub least_from : (ℕ → Bool) → ℕ → ℕ → Option ℕ
least_from test n zero = None
least_from test n (suc count) = elim (test n) [ true ↦ Some n | false ↦ least_from test (suc n) count ]

abbrev pub all_reach : List JobAxis → ℕ → Bool
all_reach [] n = true
all_reach (x ∷ xs) n = elim (reachable x.axis n) [ true ↦ all_reach xs n | false ↦ false ]

-- the least from 1 to 4,096 that every axis reaches, whatever the windows
abbrev pub least_arrival : List JobAxis → Option ℕ
least_arrival xs = least_from (all_reach xs) 1 last_tick

-- an axis that alone reaches no arrival
abbrev pub reaches_none : Axis → Bool
reaches_none x = elim (least_arrival (record { number = 0; axis = x } ∷ [])) [ Some n ↦ false | None ↦ true ]

-- ---- refusal 10, or the table

abbrev pub cells_needed : ℕ → ℕ → ℕ
cells_needed axes n = 3 * axes * suc n

-- the lent table with the c rows of the axes from place j on in front; cells after
-- the last row stay as they were
abbrev pub part_over : Order → List Axis → ℕ → ℕ → ℕ → List ℤ → List ℤ
part_over o xs n j c lent = part o xs n j c ++ drop (3 * length xs * c) lent

-- with all rows
abbrev pub table_over : Order → List Axis → ℕ → List ℤ → List ℤ
table_over o xs n lent = part_over o xs n 0 (suc n) lent

abbrev pub accept : Job → ℕ → List ℤ → Outcome
accept j n lent =
    record { number = 0; place = 0; mask = j.mask; arrival = n; cells = table_over Forwards (axes_of j) n lent }

abbrev pub filled : Job → ℕ → List ℤ → Outcome
filled j n lent =
    elim (ltb (length lent) (cells_needed (length j.axes) n)) [
      | true ↦ refuse 10 0 0 n lent
      | false ↦ accept j n lent
    ]

-- a tick that every axis reaches and that fits a window where the job brings some
abbrev pub arrives : Job → ℕ → Bool
arrives j n = in_windows j.windows n && all_reach j.axes n

-- ---- refusals 8 and 9, or the arrival: the asked one, or where 0 is asked the least

abbrev pub arrived : Job → ℕ → List ℤ → Outcome
arrived j zero lent =
    elim (least_from (arrives j) 1 last_tick) [
      | Some n ↦ filled j n lent
      | None ↦ refuse 9 0 (mask_where (λ x. reaches_none x) j.axes) 0 lent
    ]
arrived j (suc n) lent =
    elim (arrives j (suc n)) [
      | true ↦ filled j (suc n) lent
      | false ↦ refuse 8 0 (mask_where (λ x. not (reachable x (suc n))) j.axes) 0 lent
    ]

-- ---- the call: the first refusal before these, or the arrival

abbrev pub outcome_after : List ℤ → Admission → Outcome
outcome_after lent (refused_at n p) = refuse n p 0 0 lent
outcome_after lent (admitted j) = arrived j j.asked lent

-- by some rules
abbrev pub call_by : Rules → Input → List ℤ → Outcome
call_by r q lent = outcome_after lent (admission r q)

abbrev pub call : Input → List ℤ → Outcome
call = call_by planning_rules

-- from refusal 3 on, for a job whose mask and words passed
abbrev pub job_outcome_by : Rules → Job → List ℤ → Outcome
job_outcome_by r j lent = outcome_after lent (job_admission r j)

abbrev pub job_outcome : Job → List ℤ → Outcome
job_outcome = job_outcome_by planning_rules

-- ---- the same call with its rows in an order (docs/METHOD.md, 4.7)

-- an outcome of a call that was lent the cells `lent`: the answer and the refusals stay, and an
-- accepted job's rows stand in the order o
abbrev pub ordered : Order → List Axis → List ℤ → Outcome → Outcome
ordered Forwards xs lent r = r
ordered Backwards xs lent r =
    elim (eqb r.number 0) [
      | true ↦ outcome_of (answer_in r) (table_over Backwards xs r.arrival lent)
      | false ↦ r
    ]

abbrev pub call_in : Order → Input → List ℤ → Outcome
call_in o q lent = ordered o (input_axes q) lent (call q lent)

-- ---- the answer to a call before refusal 10

-- An outcome's answer, with 10 read as number 0: its mask is then the job's own.
abbrev pub before_ten : ℕ → Outcome → Answer
before_ten m o =
    elim (eqb o.number 10) [
      | true ↦ record { number = 0; place = 0; mask = m; arrival = o.arrival }
      | false ↦ record { number = o.number; place = o.place; mask = o.mask; arrival = o.arrival }
    ]

-- What a call answers whatever table is lent, so long as it has room. 10 is checked last:
-- with no cell lent every other refusal comes as it would, and 10 comes with the arrival
-- where the job would be accepted.
unfoldable pub answer_of : Input → Answer
answer_of q = before_ten (input_job q).mask (call q [])
