-- The converter (docs/METHOD.md, 8.3): from the words of an old job, whose fixed targets may fly,
-- to words of a job whose fixed targets are all at rest.
use Rattle.std.specs.Prelude.{ℕ, zero, suc, Bool, true, false, not, ◌&&◌, List, [], ◌∷◌, ◌++◌, ℤ, eqb, ltb, length}
use Rattle.std.specs.Prelude.{drop}
use Rattle.model.specs.planning.Job.{Job}
use Rattle.model.specs.planning.Words.{kind, payload, word}
use Rattle.model.specs.planning.Refusals.{limits_refused, damping_refused, blend_refused, sway_refused, values_refused}
use Rattle.model.specs.planning.Refusals.{acceleration_refused}
use Rattle.model.specs.planning.Admission.{words, Tests, axis_refusals, Admission, refused_at, admitted, Rules}
use Rattle.model.specs.planning.Admission.{job_admission, admission}
use Rattle.model.specs.planning.Outcome.{Outcome, call_by}

-- ---- the old rules: the tests of `axis_refusals` without 17

abbrev pub old_refusals : Tests
old_refusals =
    (4, limits_refused) ∷ (12, damping_refused) ∷ (5, blend_refused) ∷ (15, sway_refused) ∷ (6, values_refused)
    ∷ (16, acceleration_refused) ∷ []

abbrev pub old_rules : Rules
old_rules = record { reads = λ j. j; tests = λ asked. old_refusals }

abbrev pub old_outcome : List ℕ → List ℤ → Outcome
old_outcome ws = call_by old_rules (words ws)

-- ---- the converted words

-- the first word is of kind k
abbrev pub begins : ℕ → List ℕ → Bool
begins k [] = false
begins k (w ∷ ws) = eqb (kind w) k

-- the word w, before ws, is the velocity of a fixed target that flies
abbrev pub flying_word : ℕ → List ℕ → Bool
flying_word w ws = eqb (kind w) 10 && (not (eqb (payload w) 0) && not (begins 11 ws))

-- right after such a word come an acceleration of 0 and the asked arrival as tick; all else is
-- copied
abbrev pub converted : ℕ → List ℕ → List ℕ
converted asked [] = []
converted asked (w ∷ ws) =
    elim (flying_word w ws) [
      | true ↦ w ∷ word 11 0 ∷ word 12 asked ∷ converted asked ws
      | false ↦ w ∷ converted asked ws
    ]

-- ---- what the converter gives: number and place of its answer, and the lent words as it leaves
-- them

pub record Conversion : Type 0 where
  pub number : ℕ
  pub place : ℕ
  pub words : List ℕ

-- a refusal leaves the lent words as they were
abbrev pub unconverted : ℕ → ℕ → List ℕ → Conversion
unconverted n p lent = record { number = n; place = p; words = lent }

-- too few lent words give 10 with the number needed as place; else number 0 with the
-- number written, and later words stay
abbrev pub written : List ℕ → List ℕ → Conversion
written ws lent =
    elim (ltb (length lent) (length ws)) [
      | true ↦ unconverted 10 (length ws) lent
      | false ↦ record { number = 0; place = length ws; words = ws ++ drop (length ws) lent }
    ]

-- planning's tests through 17, which is given only where the least arrival is sought
abbrev pub conversion_refusals : ℕ → Tests
conversion_refusals zero = axis_refusals
conversion_refusals (suc n) = old_refusals

abbrev pub conversion_rules : Rules
conversion_rules = record { reads = λ j. j; tests = conversion_refusals }

abbrev pub conversion_after : List ℕ → List ℕ → Admission → Conversion
conversion_after ws lent (refused_at n p) = unconverted n p lent
conversion_after ws lent (admitted j) = written (converted j.asked ws) lent

abbrev pub conversion : List ℕ → List ℕ → Conversion
conversion ws lent = conversion_after ws lent (admission conversion_rules (words ws))

-- a job that words spell
abbrev pub job_conversion : Job → List ℕ → List ℕ → Conversion
job_conversion j ws lent = conversion_after ws lent (job_admission conversion_rules j)
