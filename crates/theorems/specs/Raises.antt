-- What the raises of an answer say, by the existence of a list (docs/METHOD.md, 8.2). The theorem
-- `raises-hold` says it of every call.
use Rattle.std.specs.Prelude.{ℕ, ◌+◌, ◌≤◌, ◌<◌, ◌≡◌, true, [], get_or}
use Rattle.std.specs.Prelude.{Option, None, Some}
use Rattle.model.specs.declared.Answer.{Answer}
use Rattle.model.specs.declared.Axis.{Axis}
use Rattle.model.specs.declared.Limit.{Limit}
use Rattle.model.specs.declared.Limit.TheVariants.{Acceleration, Speed}
use Rattle.model.specs.declared.Raise.{Raise}
use Rattle.model.specs.declared.Raise.TheVariants.{AccelerationBy, SpeedBy}
use Rattle.model.specs.declared.AxisRaises.{AxisRaises}
use Rattle.model.specs.declared.RaisesAnswer.{RaisesAnswer}
use Rattle.model.specs.planning.Motion.{Reachable}
use Rattle.model.specs.planning.Job.{Job, JobAxis, bit}
use Rattle.model.specs.declared.Order.TheVariants.{Forwards}
use Rattle.model.specs.planning.Outcome.{Outcome, Input, before_ten}
use Rattle.theorems.specs.Verdict.{Among, Verdict, ByInput}
use Rattle.model.specs.calls.Raises.{limit_of, highest, with_limit, no_raises, none_raised}

-- ---- what an answer says, by the existence of a list

-- Of a limit that is now l and may be at most `most`, Q k being that the limit k is enough: the
-- raise is enough and no smaller one is; or no limit of the range is enough.
pub data RaiseIs (Q : ℕ → Type 0) (l most : ℕ) : Option ℕ → Type 0 where
  raise : (r : ℕ) → 1 ≤ r → l + r ≤ most → Q (l + r) → ((i : ℕ) → i < r → Q (l + i) → ⊥) → RaiseIs Q l most (Some r)
  no_raise : ((i : ℕ) → l + i ≤ most → Q (l + i) → ⊥) → RaiseIs Q l most None

-- the raise of a limit that an axis's raises report, first or second
abbrev pub raise_in : Limit → Option Raise → Option ℕ → Option ℕ
raise_in Acceleration (Some (AccelerationBy m)) o = Some m
raise_in Acceleration (Some (SpeedBy l)) o = o
raise_in Acceleration None o = o
raise_in Speed (Some (AccelerationBy m)) o = o
raise_in Speed (Some (SpeedBy l)) o = Some l
raise_in Speed None o = o

abbrev pub reported : Limit → AxisRaises → Option ℕ
reported q r = raise_in q r.first (raise_in q r.second None)

-- what may stand first and second
pub data Ordered : AxisRaises → Type 0 where
  neither : Ordered no_raises
  acceleration : (m : ℕ) → Ordered (record { first = Some (AccelerationBy m); second = None })
  speed : (l : ℕ) → Ordered (record { first = Some (SpeedBy l); second = None })
  acceleration-first : (m l : ℕ) → m ≤ l
      → Ordered (record { first = Some (AccelerationBy m); second = Some (SpeedBy l) })
  speed-first : (m l : ℕ) → l < m → Ordered (record { first = Some (SpeedBy l); second = Some (AccelerationBy m) })

-- the raises of an axis that does not reach n
pub record RaisesSay (x : Axis) (n : ℕ) (r : AxisRaises) : Type 0 where
  -- of each limit alone: the raise that is reported is enough and one less is not; where none is
  -- reported, no limit of the range is
  pub each : (q : Limit) → RaiseIs (λ k. Reachable (with_limit q k x) n) (limit_of q x) (highest q) (reported q r)
  pub ordered : Ordered r

-- the entry of axis i
abbrev pub raises_at : RaisesAnswer → ℕ → AxisRaises
raises_at r i = get_or r.axes i no_raises

-- axis i is one that an answer with number 8 names
abbrev pub Named : Answer → ℕ → Type 0
Named a i = (a.number ≡ 8) × (bit a.mask i ≡ true)

-- the answer to a job: each axis that is named has its raises, and no other entry has any
pub record RaisesHold (j : Job) (r : RaisesAnswer) : Type 0 where
  pub named : (x : JobAxis) → Among j.axes x → Named r.answer x.number
      → RaisesSay x.axis j.asked (raises_at r x.number)
  pub others : (i : ℕ) → (Named r.answer i → ⊥) → raises_at r i ≡ no_raises

-- ---- what each number says

-- The number of a job is that of a call for its table, in its named case and by the existence of a
-- list: a call with no cell lent, 10 being read as number 0.
pub record RaisesVerdict (j : Job) (r : RaisesAnswer) : Type 0 where
  pub outcome : Outcome
  pub planned : Verdict Forwards j [] outcome
  pub answer : r.answer ≡ before_ten j.mask outcome
  pub holds : RaisesHold j r

-- a refusal of the words or of the mask, without raises
abbrev pub refuse_raises : ℕ → ℕ → RaisesAnswer
refuse_raises n p = record { answer = record { number = n; place = p; mask = 0; arrival = 0 }; axes = none_raised }

abbrev pub RaisesCallVerdict : Input → RaisesAnswer → Type 0
RaisesCallVerdict q r = ByInput (λ n p. r ≡ refuse_raises n p) (λ j. RaisesVerdict j r) q
