-- The words of a job, and which job words spell, for "a position has one spelling only" and "old
-- jobs keep their meaning" (docs/METHOD.md, 6.3).
use Rattle.std.specs.Prelude.{ℕ, suc, ◌-◌, ◌/◌, ◌%◌, ◌^◌, ◌≤◌, ◌<◌, ◌≡◌, true, false, ◌&&◌, ◌⊎◌, ◌↔◌, List, [], ◌∷◌}
use Rattle.std.specs.Prelude.{◌++◌, eqb, ℤ, pos, negsuc, length}
use Rattle.model.specs.declared.Axis.{Axis}
use Rattle.std.specs.Prelude.{Option, None, Some}
use Rattle.model.specs.declared.Target.{Target}
use Rattle.model.specs.declared.Target.TheVariants.{Fixed, Moving}
use Rattle.model.specs.declared.Weight.TheVariants.{Given}
use Rattle.model.specs.planning.Quantities.{speed_limit, acceleration_limit, half_period, second_weight}
use Rattle.model.specs.planning.Windows.{no_windows}
use Rattle.model.specs.planning.Job.{Job, JobAxis, set_bits}
use Rattle.model.specs.planning.Words.{word, kind, payload, fits_word, first_bad_long, got, wrong, give, signed}
use Rattle.model.specs.planning.Words.{position}
use Rattle.model.specs.planning.Words.{after_mask_by, good_mask, Decoded, no_mask, bad_word, job, decode}
use Rattle.model.specs.planning.Refusals.{position_allowed}

-- the 28 bits of a number, two's complement
abbrev pub bits : ℤ → ℕ
bits (pos n) = n
bits (negsuc n) = 2 ^ 28 - suc n

-- a number by 2²⁸: the quotient downward, and what is left, from 0 up
abbrev pub high_part : ℤ → ℤ
high_part (pos n) = pos (n / 2 ^ 28)
high_part (negsuc n) = negsuc (n / 2 ^ 28)

abbrev pub low_part : ℤ → ℕ
low_part (pos n) = n % 2 ^ 28
low_part (negsuc n) = 2 ^ 28 - suc (n % 2 ^ 28)

-- the words of a position: one where it fits, else two
abbrev pub position_words : ℕ → ℤ → List ℕ
position_words k p =
    elim (fits_word p) [ true ↦ word k (bits p) ∷ [] | false ↦ word 14 (bits (high_part p)) ∷ word k (low_part p) ∷ [] ]

-- ---- a position has one spelling only

-- words that are read as a position of kind k, whole, and that refusal 14 lets pass
pub record SpellsPosition (k : ℕ) (p : ℤ) (ws : List ℕ) : Type 0 where
  pub read : position k 0 ws ≡ got p (length ws) []
  pub allowed : first_bad_long 0 ws ≡ None

-- each position of the range has a spelling, no other words spell it, and no
-- position outside the range has one
pub record OnePositionSpelling (k : ℕ) (p : ℤ) : Type 0 where
  pub spelled : position_allowed p ≡ true → SpellsPosition k p (position_words k p)
  pub only : (ws : List ℕ) → SpellsPosition k p ws → ws ≡ position_words k p
  pub inside : (ws : List ℕ) → SpellsPosition k p ws → position_allowed p ≡ true

abbrev pub PositionSpelling : Type 0
PositionSpelling = (k : ℕ) → (k ≡ 3) ⊎ (k ≡ 9) → (p : ℤ) → OnePositionSpelling k p

-- ---- the words of a job

abbrev pub target_words : Target → List ℕ
target_words (Fixed r) = position_words 9 r.position ++ (word 10 (bits r.velocity) ∷ [])
target_words (Moving m) =
    position_words 9 m.position
    ++ (word 10 (bits m.velocity) ∷ word 11 (bits m.acceleration) ∷ word 12 (bits m.tick) ∷ [])

abbrev pub sway_words : Option ℕ → List ℕ
sway_words None = []
sway_words (Some d) = word 13 d ∷ []

abbrev pub axis_words : Axis → List ℕ
axis_words x =
    position_words 3 x.start.position
    ++ (word 4 (bits x.start.velocity)
    ∷ word 5 (speed_limit x)
    ∷ word 6 (acceleration_limit x)
    ∷ word 7 (half_period x)
    ∷ word 8 (second_weight x)
    ∷ (sway_words x.second_sway ++ target_words x.target))

abbrev pub axes_words : List JobAxis → List ℕ
axes_words [] = []
axes_words (x ∷ xs) = axis_words x.axis ++ axes_words xs

abbrev pub job_words : Job → List ℕ
job_words j = word 1 j.mask ∷ word 2 j.asked ∷ (axes_words j.axes ++ (word 15 0 ∷ []))

-- ---- which job words spell, said without a reader of words

-- each number of a job has room in its payload: 28 bits unsigned, 28 bits of two's
-- complement, and a position in two words
abbrev pub SwayInWords : Option ℕ → Type 0
SwayInWords None = Unit
SwayInWords (Some d) = d < 2 ^ 28

pub record StateInWords (p v a t : ℤ) : Type 0 where
  pub position : position_allowed p ≡ true
  pub velocity : fits_word v ≡ true
  pub acceleration : fits_word a ≡ true
  pub tick : fits_word t ≡ true

-- a fixed target has no words for acceleration and tick
abbrev pub TargetInWords : Target → Type 0
TargetInWords (Fixed r) = StateInWords r.position r.velocity (pos 0) (pos 0)
TargetInWords (Moving m) = StateInWords m.position m.velocity m.acceleration m.tick

pub record AxisInWords (x : Axis) : Type 0 where
  pub position : position_allowed x.start.position ≡ true
  pub velocity : fits_word x.start.velocity ≡ true
  pub speed : speed_limit x < 2 ^ 28
  pub acceleration : acceleration_limit x < 2 ^ 28
  pub period : half_period x < 2 ^ 28
  -- words bring the number B, not damping as measured
  pub given : x.second_weight ≡ Given (second_weight x)
  pub weight : second_weight x < 2 ^ 28
  pub sway : SwayInWords x.second_sway
  pub target : TargetInWords x.target

-- an axis for each number, in their order, and no other
abbrev pub AxesInWords : List ℕ → List JobAxis → Type 0
AxesInWords [] [] = Unit
AxesInWords [] (x ∷ xs) = ⊥
AxesInWords (n ∷ ns) [] = ⊥
AxesInWords (n ∷ ns) (x ∷ xs) = (x.number ≡ n) × (AxisInWords x.axis × AxesInWords ns xs)

-- the axes are those of the mask's bits, lowest first; words bring no windows
pub record JobInWords (j : Job) : Type 0 where
  pub mask : (1 ≤ j.mask) × (j.mask ≤ 63)
  pub asked : j.asked < 2 ^ 28
  pub axes : AxesInWords (set_bits j.mask) j.axes
  pub windows : j.windows ≡ no_windows

pub record SpellsJob (ws : List ℕ) (j : Job) : Type 0 where
  pub inside : JobInWords j
  pub words : ws ≡ job_words j

-- words are read as a job exactly where they spell it: the words of every job are read as that job,
-- and no others are, so that no job has two spellings
abbrev pub OneSpelling : Type 0
OneSpelling = (ws : List ℕ) (j : Job) → (decode ws ≡ job j) ↔ SpellsJob ws j

-- ---- old jobs keep their meaning

-- the reading of docs/METHOD.md, 6.1 and 6.2, without kinds 13 and 14: each position is one word,
-- no axis has a second sway, and 1 and 2 are the only refusals
abbrev pub old_decode : List ℕ → Decoded
old_decode [] = no_mask
old_decode (w ∷ ws) =
    elim (eqb (kind w) 1 && good_mask (payload w)) [
      | true ↦ elim (after_mask_by signed (give None)
          (payload w) 1 ws) [ got j i rest ↦ job j | wrong p ↦ bad_word p ]
      | false ↦ no_mask
    ]

-- no word is of kind 14 or 13
abbrev pub OldKinds : List ℕ → Type 0
OldKinds [] = Unit
OldKinds (w ∷ ws) = (kind w ≡ 14 → ⊥) × ((kind w ≡ 13 → ⊥) × OldKinds ws)

abbrev pub OldJobsKept : Type 0
OldJobsKept = (ws : List ℕ) → OldKinds ws → decode ws ≡ old_decode ws
