-- What every call goes on from (docs/METHOD.md, section 7): the first refusal of a job before its
-- arrival is looked for, or the job. Which job a call is given, the tests of its axes in checking
-- order, refusals 1, 2 and 14 of words, 3 and 13.
use Rattle.std.specs.Prelude.{ℕ, Bool, true, false, List, [], ◌∷◌, leb}
use Rattle.std.specs.Prelude.{Option, None, Some}
use Rattle.model.specs.declared.Axis.{Axis}
use Rattle.model.specs.declared.Job as Typed
use Rattle.model.specs.planning.Windows.{no_windows, refused13}
use Rattle.model.specs.planning.Job.{Job, JobAxis, axes_of, job_of}
use Rattle.model.specs.planning.Words.{Decoded, no_mask, bad_word, bad_long, job, decode, good_mask}
use Rattle.model.specs.planning.Refusals.{last_tick, limits_refused, damping_refused, blend_refused, sway_refused}
use Rattle.model.specs.planning.Refusals.{values_refused, acceleration_refused, flying_refused}

-- ---- what a call is given

-- words, or a job of typed values
pub data Input : Type 0 where
  words : List ℕ → Input
  typed : Typed.Job → Input

-- its job; one without axes where the words are refused
abbrev pub no_job : Job
no_job = record { mask = 0; asked = 0; axes = []; windows = no_windows }

abbrev pub job_read : Decoded → Job
job_read no_mask = no_job
job_read (bad_word p) = no_job
job_read (bad_long p) = no_job
job_read (job j) = j

abbrev pub input_job : Input → Job
input_job (words ws) = job_read (decode ws)
input_job (typed t) = job_of t

-- the axes that a call plans, lowest first
abbrev pub input_axes : Input → List Axis
input_axes q = axes_of (input_job q)

-- ---- the tests of the axes

-- the number of the first axis for which a test holds
abbrev pub first_axis : (Axis → Bool) → List JobAxis → Option ℕ
first_axis f [] = None
first_axis f (x ∷ xs) = elim (f x.axis) [ true ↦ Some x.number | false ↦ first_axis f xs ]

-- numbered tests of an axis, in checking order
abbrev pub Tests : Type 0
Tests = List (ℕ × (Axis → Bool))

abbrev pub axis_refusals : Tests
axis_refusals =
    (4, limits_refused)
    ∷ (12, damping_refused)
    ∷ (5, blend_refused)
    ∷ (15, sway_refused)
    ∷ (6, values_refused)
    ∷ (16, acceleration_refused)
    ∷ (17, flying_refused)
    ∷ []

-- ---- the first refusal, or the job

pub data Admission : Type 0 where
  -- a refusal's number and its place
  refused_at : ℕ → ℕ → Admission
  admitted : Job → Admission

-- How a call admits jobs: as what it reads a job, and the tests of the axes for an asked arrival.
pub record Rules : Type 0 where
  pub reads : Job → Job
  pub tests : ℕ → Tests

-- planning reads a job as it is
abbrev pub planning_rules : Rules
planning_rules = record { reads = λ j. j; tests = λ asked. axis_refusals }

-- 13, directly after 17
abbrev pub windowed : Job → Admission
windowed j = elim (refused13 j.windows) [ Some p ↦ refused_at 13 p | None ↦ admitted j ]

-- each number over all axes, lowest first, before the next number
abbrev pub tested : Tests → Job → Admission
tested [] j = windowed j
tested (t ∷ ts) j = elim (first_axis t.1 j.axes) [ Some i ↦ refused_at t.0 i | None ↦ tested ts j ]

-- from 3 on
abbrev pub asked_admission : (ℕ → Tests) → Job → Admission
asked_admission tests j = elim (leb j.asked last_tick) [ true ↦ tested (tests j.asked) j | false ↦ refused_at 3 1 ]

abbrev pub job_admission : Rules → Job → Admission
job_admission r j = asked_admission r.tests (r.reads j)

-- 1, 2 and 14 of words; 1 of typed values, which then go on at 3
abbrev pub admission : Rules → Input → Admission
admission r (words ws) =
    elim (decode ws) [
      | no_mask ↦ refused_at 1 0
      | bad_word p ↦ refused_at 2 p
      | bad_long p ↦ refused_at 14 p
      | job j ↦ job_admission r j
    ]
admission r (typed t) = elim (good_mask t.mask) [ true ↦ job_admission r (job_of t) | false ↦ refused_at 1 0 ]
