-- What converted words are: the same outcome under the old rules, and under the planning calls
-- (docs/METHOD.md, 8.3).
use Rattle.std.specs.Prelude.{ℕ, ◌≡◌, true, false, List, map, ℤ, take}
use Rattle.model.specs.declared.Axis.{Axis}
use Rattle.model.specs.declared.Target.{Target}
use Rattle.model.specs.declared.Target.TheVariants.{Fixed, Moving}
use Rattle.model.specs.planning.Quantities.{as_moving}
use Rattle.model.specs.planning.Job.{Job, JobAxis}
use Rattle.model.specs.planning.Refusals.{flies}
use Rattle.model.specs.planning.Admission.{words}
use Rattle.model.specs.planning.Outcome.{call}
use Rattle.theorems.specs.Verdict.{ByInput}
use Rattle.model.specs.calls.Converter.{old_outcome, Conversion, unconverted, conversion, job_conversion}

-- which words it refuses, and which job it converts, said of the words
abbrev pub ConversionVerdict : List ℕ → List ℕ → Conversion → Type 0
ConversionVerdict ws lent c = ByInput (λ n p. c ≡ unconverted n p lent) (λ j. c ≡ job_conversion j ws lent) (words ws)

-- ---- the job that the converted words are: a fixed target that flies is what it is read as for
-- arrival n, a moving one of acceleration 0 at tick n

abbrev pub converted_target : ℕ → Target → Target
converted_target n (Fixed r) =
    elim (flies (Fixed r)) [
      | true ↦ Moving (as_moving (Fixed r) n)
      | false ↦ Fixed r
    ]
converted_target n (Moving m) = Moving m

abbrev pub with_target : Axis → Target → Axis
with_target x g =
    record {
      start = x.start;
      speed_limit = x.speed_limit;
      acceleration_limit = x.acceleration_limit;
      half_period = x.half_period;
      second_weight = x.second_weight;
      second_sway = x.second_sway;
      target = g;
    }

abbrev pub converted_axis : ℕ → Axis → Axis
converted_axis n x = with_target x (converted_target n x.target)

abbrev pub converted_axes : ℕ → List JobAxis → List JobAxis
converted_axes n xs = map (λ x. record { number = x.number; axis = converted_axis n x.axis }) xs

abbrev pub converted_job : Job → Job
converted_job j =
    record { mask = j.mask; asked = j.asked; axes = converted_axes j.asked j.axes; windows = j.windows }

-- ---- what is proved of every conversion that returns number 0, whatever table is lent for the job

-- the words that it wrote
abbrev pub written_words : List ℕ → List ℕ → List ℕ
written_words ws lent = take (conversion ws lent).place (conversion ws lent).words

-- under the old rules they have the outcome of the old words: number, place, mask, arrival and
-- every cell
abbrev pub ConversionKept : Type 0
ConversionKept = (ws lent : List ℕ) → (conversion ws lent).number ≡ 0 → (cells : List ℤ)
    → old_outcome (written_words ws lent) cells ≡ old_outcome ws cells

-- and planning gives them that outcome too
abbrev pub ConversionPlans : Type 0
ConversionPlans = (ws lent : List ℕ) → (conversion ws lent).number ≡ 0 → (cells : List ℤ)
    → call (words (written_words ws lent)) cells ≡ old_outcome ws cells
