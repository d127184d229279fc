-- What each number of a call for a table says, with its rows in either order w, in the words of
-- docs/METHOD.md, section 7: its named case, the first in checking order, by the existence of a
-- list (rule 4) and not by the decision. The theorem `verdict` says it of every job from refusal 3
-- on, `call-verdict` of every call, `verdict-in` of both orders.
use Rattle.std.specs.Prelude.{Some, IfSome, IsSomeAnd}
use Rattle.std.specs.Prelude.{ℕ, suc, ◌≤◌, ◌<◌, ◌≡◌, Bool, true, false, List, [], ◌∷◌, ◌++◌, ◌↔◌, ◌⊎◌, ℤ, pos, negsuc}
use Rattle.std.specs.Prelude.{length, drop}
use Rattle.std.specs.Prelude.{slice_get}
use Rattle.model.specs.declared.Axis.{Axis}
use Rattle.model.specs.declared.Job as Typed
use Rattle.model.specs.declared.Order.{Order}
use Rattle.model.specs.planning.Motion.{Reachable}
use Rattle.model.specs.planning.Windows.{brought}
use Rattle.theorems.specs.Windows.{FitsOne, WindowsWrong, WindowsRight}
use Rattle.model.specs.planning.Rows.{table}
use Rattle.model.specs.planning.Job.{Job, JobAxis, axes_of, job_of, bit}
use Rattle.model.specs.planning.Words.{kind, payload, twos, long_position, between, fits_word, Decoded, no_mask}
use Rattle.model.specs.planning.Words.{bad_word, bad_long, job, decode}
use Rattle.theorems.specs.Grammar.{WellFormed, FirstWrong}
use Rattle.theorems.specs.Spelling.{SpellsJob}
use Rattle.model.specs.planning.Refusals.{limits_refused, damping_refused, blend_refused, sway_refused, values_refused}
use Rattle.model.specs.planning.Refusals.{acceleration_refused, flying_refused, AllPassed}
use Rattle.model.specs.planning.Outcome.{Outcome, Input, words, typed, cells_needed, job_outcome}

-- ---- the two kinds of answer

-- a refusal: number, place, mask and arrival, and nothing lent is written
pub record Refuses (o : Outcome) (n p m a : ℕ) (lent : List ℤ) : Type 0 where
  pub number : o.number ≡ n
  pub place : o.place ≡ p
  pub mask : o.mask ≡ m
  pub arrival : o.arrival ≡ a
  pub cells : o.cells ≡ lent

-- an accepted job: its own mask and its arrival, the rows in the table's first cells, and the cells
-- after the last row as they were
pub record Accepts (w : Order) (o : Outcome) (j : Job) (n : ℕ) (lent : List ℤ) : Type 0 where
  pub number : o.number ≡ 0
  pub place : o.place ≡ 0
  pub mask : o.mask ≡ j.mask
  pub arrival : o.arrival ≡ n
  pub cells : o.cells ≡ table w (axes_of j) n ++ drop (cells_needed (length (axes_of j)) n) lent

-- ---- axes of a list

-- x is one of the axes
abbrev pub Among : List JobAxis → JobAxis → Type 0
Among xs x = (k : ℕ) × (slice_get xs k ≡ Some x)

-- a test refuses none of the axes
abbrev pub NoneRefused : (Axis → Bool) → List JobAxis → Type 0
NoneRefused test xs = (x : JobAxis) → Among xs x → test x.axis ≡ false

-- axis number i is the first that a test refuses
pub record FirstRefused (test : Axis → Bool) (xs : List JobAxis) (i : ℕ) : Type 0 where
  pub index : ℕ
  pub axis : JobAxis
  pub here : slice_get xs index ≡ Some axis
  pub number : axis.number ≡ i
  pub refused : test axis.axis ≡ true
  pub before : (k : ℕ) (y : JobAxis) → k < index → slice_get xs k ≡ Some y → test y.axis ≡ false

-- the mask m names exactly those of the axes of which Q holds
pub record Names (Q : Axis → Type 0) (xs : List JobAxis) (m : ℕ) : Type 0 where
  pub each : (x : JobAxis) → Among xs x → (bit m x.number ≡ true) ↔ Q x.axis
  pub only : (i : ℕ) → bit m i ≡ true → (x : JobAxis) × (Among xs x × (x.number ≡ i))

-- ---- arrivals

abbrev pub AllReachable : List JobAxis → ℕ → Type 0
AllReachable xs n = (x : JobAxis) → Among xs x → Reachable x.axis n

-- an axis that alone reaches no arrival from 1 to 4,096
abbrev pub ReachesNone : Axis → Type 0
ReachesNone x = (n : ℕ) → 1 ≤ n → n ≤ 4096 → Reachable x n → ⊥

-- every axis reaches tick n, and it fits a window where the job brings some
pub record Arrives (j : Job) (n : ℕ) : Type 0 where
  pub fits : IfSome j.windows (λ w. FitsOne n w.dwell (brought w))
  pub reached : AllReachable j.axes n

-- the arrival of a job: the asked one, or where none is asked the least from 1 to 4,096
pub record IsArrival (j : Job) (n : ℕ) : Type 0 where
  pub first : 1 ≤ n
  pub last : n ≤ 4096
  pub arrives : Arrives j n
  pub asked : (j.asked ≡ n) ⊎ ((j.asked ≡ 0) × ((k : ℕ) → 1 ≤ k → k < n → Arrives j k → ⊥))

-- the windows that a job brings are right
abbrev pub WindowsPass : Job → Type 0
WindowsPass j = IfSome j.windows WindowsRight

-- ---- from refusal 3 on: a job whose mask and words passed

pub data Verdict (w : Order) (j : Job) (lent : List ℤ) (o : Outcome) : Type 0 where
  refused3 : 4096 < j.asked → Refuses o 3 1 0 0 lent → Verdict w j lent o
  refused4 : (i : ℕ) → j.asked ≤ 4096 → FirstRefused limits_refused j.axes i
      → Refuses o 4 i 0 0 lent → Verdict w j lent o
  refused12 : (i : ℕ) → j.asked ≤ 4096 → NoneRefused limits_refused j.axes → FirstRefused damping_refused j.axes i
      → Refuses o 12 i 0 0 lent → Verdict w j lent o
  refused5 : (i : ℕ) → j.asked ≤ 4096 → NoneRefused limits_refused j.axes → NoneRefused damping_refused j.axes
      → FirstRefused blend_refused j.axes i → Refuses o 5 i 0 0 lent → Verdict w j lent o
  refused15 : (i : ℕ) → j.asked ≤ 4096 → NoneRefused limits_refused j.axes → NoneRefused damping_refused j.axes
      → NoneRefused blend_refused j.axes → FirstRefused sway_refused j.axes i
      → Refuses o 15 i 0 0 lent → Verdict w j lent o
  refused6 : (i : ℕ) → j.asked ≤ 4096 → NoneRefused limits_refused j.axes → NoneRefused damping_refused j.axes
      → NoneRefused blend_refused j.axes → NoneRefused sway_refused j.axes → FirstRefused values_refused j.axes i
      → Refuses o 6 i 0 0 lent → Verdict w j lent o
  refused16 : (i : ℕ) → j.asked ≤ 4096 → NoneRefused limits_refused j.axes → NoneRefused damping_refused j.axes
      → NoneRefused blend_refused j.axes → NoneRefused sway_refused j.axes → NoneRefused values_refused j.axes
      → FirstRefused acceleration_refused j.axes i → Refuses o 16 i 0 0 lent → Verdict w j lent o
  refused17 : (i : ℕ) → j.asked ≤ 4096 → NoneRefused limits_refused j.axes → NoneRefused damping_refused j.axes
      → NoneRefused blend_refused j.axes → NoneRefused sway_refused j.axes → NoneRefused values_refused j.axes
      → NoneRefused acceleration_refused j.axes → FirstRefused flying_refused j.axes i
      → Refuses o 17 i 0 0 lent → Verdict w j lent o
  -- windows are brought, and they are not right
  refused13 : (p : ℕ) → j.asked ≤ 4096 → AllPassed j.axes → IsSomeAnd j.windows (λ w. WindowsWrong w p)
      → Refuses o 13 p 0 0 lent → Verdict w j lent o
  -- an arrival is asked for that an axis does not reach or that fits no window, and the mask names
  -- exactly the axes that do not reach it
  refused8 : (m : ℕ) → 1 ≤ j.asked → j.asked ≤ 4096 → AllPassed j.axes → WindowsPass j
      → (Arrives j j.asked → ⊥) → Names (λ x. Reachable x j.asked → ⊥) j.axes m
      → Refuses o 8 0 m 0 lent → Verdict w j lent o
  -- none is asked for, none exists, and the mask names exactly the axes that alone
  -- reach none, whatever the windows
  refused9 : (m : ℕ) → j.asked ≡ 0 → AllPassed j.axes → WindowsPass j
      → ((n : ℕ) → 1 ≤ n → n ≤ 4096 → Arrives j n → ⊥) → Names ReachesNone j.axes m
      → Refuses o 9 0 m 0 lent → Verdict w j lent o
  refused10 : (n : ℕ) → AllPassed j.axes → WindowsPass j → IsArrival j n
      → length lent < cells_needed (length j.axes) n
      → Refuses o 10 0 0 n lent → Verdict w j lent o
  accepted : (n : ℕ) → AllPassed j.axes → WindowsPass j → IsArrival j n
      → cells_needed (length j.axes) n ≤ length lent
      → Accepts w o j n lent → Verdict w j lent o

-- ---- 8 and 9 of a job that every refusal before them lets pass

pub record Passing (j : Job) : Type 0 where
  pub asked : j.asked ≤ 4096
  pub axes : AllPassed j.axes
  pub windows : WindowsPass j

-- every axis reaches tick n, and windows are brought of which none holds it
pub record OutsideWindows (j : Job) (n : ℕ) : Type 0 where
  pub reached : AllReachable j.axes n
  pub outside : IsSomeAnd j.windows (λ w. FitsOne n w.dwell (brought w) → ⊥)

-- 8 with mask 0 comes exactly where the asked arrival is such a tick
abbrev pub EightOutside : Type 0
EightOutside = (j : Job) (lent : List ℤ) → Passing j → 1 ≤ j.asked
    → (((job_outcome j lent).number ≡ 8) × ((job_outcome j lent).mask ≡ 0)) ↔ OutsideWindows j j.asked

-- 9 comes exactly where no arrival from 1 to 4,096 is reached by every axis and fits a window
abbrev pub NineNowhere : Type 0
NineNowhere = (j : Job) (lent : List ℤ) → Passing j → j.asked ≡ 0
    → ((job_outcome j lent).number ≡ 9) ↔ ((n : ℕ) → 1 ≤ n → n ≤ 4096 → Arrives j n → ⊥)

-- ---- the calls

-- a mask that names no axis or one that there is not
abbrev pub MaskOutside : ℕ → Type 0
MaskOutside m = (m ≡ 0) ⊎ (63 < m)

-- the mask word is absent, not of kind 1, or its payload is 0 or above 63
abbrev pub MaskWordWrong : List ℕ → Type 0
MaskWordWrong [] = Unit
MaskWordWrong (w ∷ ws) = (kind w ≡ 1 → ⊥) ⊎ MaskOutside (payload w)

-- The mask word is right, and the word of index p is the first that is not of a
-- kind allowed next, or an end word whose payload is not 0, or one too many; or
-- words are lacking and p is their count.
pub record WordWrong (ws : List ℕ) (p : ℕ) : Type 0 where
  pub mask : MaskWordWrong ws → ⊥
  pub first : FirstWrong WellFormed ws p

-- a word of kind 14, before the word u, whose payload is outside −64 to 63 or
-- whose position fits a single word
pub record LongWrong (w u : ℕ) : Type 0 where
  pub long : kind w ≡ 14
  pub wrong : (between (negsuc 63) (pos 63) (twos (payload w)) ≡ false)
      ⊎ (fits_word (long_position (payload w) (payload u)) ≡ true)

-- the word of index p is the first such
pub record FirstLongWrong (ws : List ℕ) (p : ℕ) : Type 0 where
  pub high : ℕ
  pub low : ℕ
  pub here : slice_get ws p ≡ Some high
  pub next : slice_get ws (suc p) ≡ Some low
  pub wrong : LongWrong high low
  pub before : (k w u : ℕ) → k < p → slice_get ws k ≡ Some w → slice_get ws (suc k) ≡ Some u → LongWrong w u → ⊥

-- no word is such
abbrev pub NoneLongWrong : List ℕ → Type 0
NoneLongWrong ws = (k w u : ℕ) → slice_get ws k ≡ Some w → slice_get ws (suc k) ≡ Some u → LongWrong w u → ⊥

-- ---- what words are, said without a reader of words: four cases that exclude one another

-- the mask word is wrong; another word is; all are allowed but one of kind 14 is wrong;
-- or none is, and they spell a job
abbrev pub WordsAre : List ℕ → Decoded → Type 0
WordsAre ws no_mask = MaskWordWrong ws
WordsAre ws (bad_word p) = WordWrong ws p
WordsAre ws (bad_long p) = WellFormed ws × FirstLongWrong ws p
WordsAre ws (job j) = WellFormed ws × (NoneLongWrong ws × SpellsJob ws j)

-- the decoder gives exactly the case that they are
abbrev pub DecodesAre : Type 0
DecodesAre = (ws : List ℕ) (d : Decoded) → (decode ws ≡ d) ↔ WordsAre ws d

-- ---- what a call says of what it was given, whatever it is for: R n p is that it refuses with
-- number n and place p, P j what it says of the job j

pub data ByInput (R : ℕ → ℕ → Type 0) (P : Job → Type 0) : Input → Type 0 where
  words1 : (ws : List ℕ) → WordsAre ws no_mask → R 1 0 → ByInput R P (words ws)
  words2 : (ws : List ℕ) (p : ℕ) → WordsAre ws (bad_word p) → R 2 p → ByInput R P (words ws)
  words14 : (ws : List ℕ) (p : ℕ) → WordsAre ws (bad_long p) → R 14 p → ByInput R P (words ws)
  words_job : (ws : List ℕ) (j : Job) → WordsAre ws (job j) → P j → ByInput R P (words ws)
  typed1 : (t : Typed.Job) → MaskOutside t.mask → R 1 0 → ByInput R P (typed t)
  typed_jobs : (t : Typed.Job) → 1 ≤ t.mask → t.mask ≤ 63 → P (job_of t) → ByInput R P (typed t)

-- a call for a table
abbrev pub CallVerdict : Order → List ℤ → Outcome → Input → Type 0
CallVerdict w lent o = ByInput (λ n p. Refuses o n p 0 0 lent) (λ j. Verdict w j lent o)
