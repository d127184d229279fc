-- A conversion that returns number 0 wrote words that have the outcome of the old words, by the old
-- rules (`conversion-kept`) and in planning (`conversion-plans`).
use Prim.Native.Nat.{ℕ, zero, suc}
use native.Mathlib.Omega.{arith}
use mathlib.Core.Path.{◌≡◌, refl, sym, ap, ◌∙◌}
use mathlib.Core.Bool.{Bool, true, false}
use Rattle.std.specs.Prelude.{Option, None, Some}
use mathlib.Core.List.{List, [], ◌∷◌, ◌++◌}
use lib.IntN.{ℤ}
use lib.Dec.{leb, ltb}
use lib.ListN.{length, take, drop}
use Rattle.model.specs.declared.Axis.{Axis}
use Rattle.model.specs.declared.Target.{Target}
use Rattle.model.specs.declared.Target.TheVariants.{Fixed, Moving}
use Rattle.model.specs.planning.Quantities.{as_moving}
use Rattle.model.specs.planning.Job.{Job, JobAxis}
use Rattle.model.specs.planning.Words.{Decoded, no_mask, bad_word, bad_long, job, decode}
use Rattle.model.specs.planning.Refusals.{last_tick, flies, flying_refused}
use Rattle.model.specs.planning.Admission.{words, first_axis, Tests, axis_refusals, Admission, refused_at, Rules}
use Rattle.model.specs.planning.Admission.{planning_rules, windowed, tested, job_admission}
use Rattle.model.specs.planning.Outcome.{Outcome, outcome_after, call_by, job_outcome_by, job_outcome}
use Rattle.model.specs.calls.Converter.{old_refusals, old_rules, old_outcome, converted, Conversion, unconverted}
use Rattle.model.specs.calls.Converter.{written}
use Rattle.model.specs.calls.Converter.{conversion_refusals, conversion_rules, job_conversion, conversion_after}
use Rattle.model.specs.calls.Converter.{conversion}
use Rattle.theorems.specs.Converter.{converted_target, with_target, converted_axis, converted_axes, converted_job}
use Rattle.theorems.specs.Converter.{ConversionKept, ConversionPlans, ConversionVerdict}
use Rattle.theorems.proofs.jobs.OutsideWindows.{Clear}
use Rattle.theorems.proofs.jobs.CheckingOrder.{Lacks, lacks}
use Rattle.theorems.proofs.jobs.Admissions.{Numbered, Comes, refuses, goes, job-comes, after-admission}
use Rattle.theorems.proofs.calls.ConvertedJob.{converted-outcome}
use Rattle.theorems.proofs.calls.ConvertedWords.{converted-words}

-- ---- a job with no flying target is not changed

axis-still : (n : ℕ) (x : Axis) → flying_refused x ≡ false → converted_axis n x ≡ x
axis-still n x e = ap (with_target x) (by-target x.target e)
  where
    by-target : (g : Target) → flies g ≡ false → converted_target n g ≡ g
    by-target (Fixed r) e =
        ap (λ (b : Bool). elim b as (λ _. Target) [
          | true ↦ Moving (as_moving (Fixed r) n)
          | false ↦ Fixed r
        ]) e
    by-target (Moving m) e = refl

axes-still : (n : ℕ) (xs : List JobAxis) → first_axis flying_refused xs ≡ None → converted_axes n xs ≡ xs
axes-still n [] e = refl
axes-still n (x ∷ xs) e = go (flying_refused x.axis) refl e (axes-still n xs)
  where
    go : (b : Bool) → flying_refused x.axis ≡ b
        → ◌≡◌ {A = Option ℕ}
        (elim b as (λ _. Option ℕ) [ true ↦ Some x.number | false ↦ first_axis flying_refused xs ]) None
        → (first_axis flying_refused xs ≡ None → converted_axes n xs ≡ xs) → converted_axes n (x ∷ xs) ≡ x ∷ xs
    go true t e h = absurd (let z : ◌≡◌ {A = ℕ} 0 1 = cc in omega arith)
    go false t e h = (λ i. record { number = x.number; axis = axis-still n x.axis t i } ∷ h e i)

-- ---- no target of a converted job flies: the new rules say of it what the old ones say

target-rests : (n : ℕ) (g : Target) → flies (converted_target n g) ≡ false
target-rests n (Fixed r) = go (flies (Fixed r)) refl
  where
    go : (b : Bool) → flies (Fixed r) ≡ b
        → flies (elim b as (λ _. Target) [
          | true ↦ Moving (as_moving (Fixed r) n)
          | false ↦ Fixed r
        ]) ≡ false
    go true e = refl
    go false e = e
target-rests n (Moving m) = refl

none-flies : (n : ℕ) (xs : List JobAxis) → first_axis flying_refused (converted_axes n xs) ≡ None
none-flies n [] = refl
none-flies n (x ∷ xs) =
    (λ i. elim (target-rests n x.axis.target i) as
    (λ _. Option ℕ) [ true ↦ Some x.number | false ↦ none-flies n xs i ])

-- planning's tests and the old ones, where 17 names no axis
tests_same : (j : Job) → first_axis flying_refused j.axes ≡ None → tested axis_refusals j ≡ tested old_refusals j
tests_same j e = more old_refusals
  where
    more : (ts : Tests) → tested (ts ++ ((17, flying_refused) ∷ [])) j ≡ tested ts j
    more [] = ap (λ (o : Option ℕ). elim o as (λ _. Admission) [ Some a ↦ refused_at 17 a | None ↦ windowed j ]) e
    more (t ∷ ts) =
        ap (λ (z : Admission). elim (first_axis t.1 j.axes) as
        (λ _. Admission) [ Some a ↦ refused_at t.0 a | None ↦ z ]) (more ts)

outcome-same : (j : Job) (cells : List ℤ) → first_axis flying_refused j.axes ≡ None
    → job_outcome j cells ≡ job_outcome_by old_rules j cells
outcome-same j cells e =
    ap (λ (z : Admission). outcome_after cells
    (elim (leb j.asked last_tick) as (λ _. Admission) [ true ↦ z | false ↦ refused_at 3 1 ])) (tests_same j e)

-- ---- what number 0 says

-- the converter's tests have no number 0 and no number 10
pub conversion-numbered : Numbered conversion_rules
conversion-numbered = record { not-0 = λ n. zeros n; not-10 = λ n. tens n }
  where
    zeros : (n : ℕ) → Lacks 0 (conversion_refusals n)
    zeros zero = lacks 0 axis_refusals refl
    zeros (suc n) = lacks 0 old_refusals refl

    tens : (n : ℕ) → Lacks 10 (conversion_refusals n)
    tens zero = lacks 10 axis_refusals refl
    tens (suc n) = lacks 10 old_refusals refl

last-clear : (t : ℕ × (Axis → Bool)) (ts : Tests) (xs : List JobAxis)
    → Clear (ts ++ (t ∷ [])) xs → first_axis t.1 xs ≡ None
last-clear t [] xs c = c.0
last-clear t (u ∷ ts) xs c = last-clear t ts xs c.1

taken : (l r : List ℕ) → take (length l) (l ++ r) ≡ l
taken [] r = refl
taken (x ∷ l) r = ap (λ (k : List ℕ). x ∷ k) (taken l r)

-- the words that were written
all-written : (ws lent : List ℕ) → (written ws lent).number ≡ 0
    → take (written ws lent).place (written ws lent).words ≡ ws
all-written ws lent z = go (ltb (length lent) (length ws)) z
  where
    by : Bool → Conversion
    by b =
        elim b [
          | true ↦ unconverted 10 (length ws) lent
          | false ↦ record { number = 0; place = length ws; words = ws ++ drop (length ws) lent }
        ]

    go : (b : Bool) → (by b).number ≡ 0 → take (by b).place (by b).words ≡ ws
    go true z = absurd (omega arith)
    go false z = taken ws (drop (length ws) lent)

-- ---- the outcome

outcome-by : Rules → List ℤ → Decoded → Outcome
outcome-by r cells d =
    outcome_after cells (elim d [
      | no_mask ↦ refused_at 1 0
      | bad_word p ↦ refused_at 2 p
      | bad_long p ↦ refused_at 14 p
      | job j ↦ job_admission r j
    ])

-- by the rules r, which say of a job without a flying target what the old rules say
module _ (r : Rules) (ws lent : List ℕ) (cells : List ℤ)
    (of-job : (j : Job) → first_axis flying_refused j.axes ≡ None
    → job_outcome_by r j cells ≡ job_outcome_by old_rules j cells) where
  abbrev Kept : Conversion → Type 0
  Kept c = call_by r (words (take c.place c.words)) cells ≡ old_outcome ws cells

  -- the asked arrival as n
  by-asked : (n : ℕ) (j : Job) → j.asked ≡ n → Clear (conversion_refusals n) j.axes
      → job_outcome_by old_rules (converted_job j) cells ≡ job_outcome_by old_rules j cells
  by-asked zero j a c =
      ap (λ (xs : List JobAxis). job_outcome_by old_rules
      (record { mask = j.mask; asked = j.asked; axes = xs; windows = j.windows }) cells)
      (axes-still j.asked j.axes (last-clear (17, flying_refused) old_refusals j.axes c))
  by-asked (suc n) j a c = converted-outcome j cells (omega arith)

  by-job : (j : Job) → decode ws ≡ job j → (a : Admission) → Comes conversion_rules j a
      → (conversion_after ws lent a).number ≡ 0
      → Kept (conversion_after ws lent a)
  unfolding outcome-by
  by-job j d a (refuses n p h k) z = absurd (h z)
  by-job j d a (goes h c w) z =
      ap (λ (vs : List ℕ). call_by r (words vs) cells) (all-written (converted j.asked ws) lent z)
      ∙ ap (outcome-by r cells) (converted-words ws j h d)
      ∙ of-job (converted_job j) (none-flies j.asked j.axes)
      ∙ by-asked j.asked j refl c
      ∙ sym (ap (outcome-by old_rules cells) d)

  abbrev by : Decoded → Conversion
  by d =
      conversion_after ws lent (elim d [
        | no_mask ↦ refused_at 1 0
        | bad_word p ↦ refused_at 2 p
        | bad_long p ↦ refused_at 14 p
        | job j ↦ job_admission conversion_rules j
      ])

  by-decoded : (d : Decoded) → decode ws ≡ d → (by d).number ≡ 0 → Kept (by d)
  by-decoded no_mask e z = absurd (omega arith)
  by-decoded (bad_word p) e z = absurd (omega arith)
  by-decoded (bad_long p) e z = absurd (omega arith)
  by-decoded (job j) e z =
      by-job j e (job_admission conversion_rules j) (job-comes conversion_rules conversion-numbered j) z

pub conversion-kept : ConversionKept
conversion-kept ws lent z cells = by-decoded old_rules ws lent cells (λ j e. refl) (decode ws) refl z

pub conversion-plans : ConversionPlans
conversion-plans ws lent z cells =
    by-decoded planning_rules ws lent cells (λ j e. outcome-same j cells e) (decode ws) refl z

-- ---- what each number says of the words

pub conversion-verdict : (ws lent : List ℕ) → ConversionVerdict ws lent (conversion ws lent)
conversion-verdict ws lent =
    after-admission conversion_rules (conversion_after ws lent) (λ c n p. c ≡ unconverted n p lent)
    (λ c j. c ≡ job_conversion j ws lent) (λ n p. refl) (words ws)
    (λ j a. refl)
