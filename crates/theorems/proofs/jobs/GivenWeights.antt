-- A job with damping as measured, and the same job with each B entered by hand: of one axis every
-- definition but refusal 12 reads the weight as a number only, so that both sides compute to the
-- same; so do arrivals, tables and the tests of the axes.
use Prim.Native.Nat.{ℕ, zero, suc, ◌/◌, ◌%◌}
use native.Mathlib.Omega.{arith}
use mathlib.Core.Path.{◌≡◌, refl, ap, ◌∙◌}
use mathlib.Core.Bool.{Bool, true, false, not, ◌&&◌}
use mathlib.Core.List.{List, [], ◌∷◌, map}
use lib.IntN.{ℤ}
use lib.Dec.{eqb}
use Rattle.model.specs.declared.Axis.{Axis}
use Rattle.model.specs.declared.Target.{Target}
use Rattle.model.specs.declared.Target.TheVariants.{Fixed, Moving}
use Rattle.std.specs.Prelude.{Option, None, Some}
use Rattle.model.specs.declared.Order.{Order}
use Rattle.model.specs.declared.Order.TheVariants.{Forwards, Backwards}
use Rattle.model.specs.planning.Windows.{no_windows}
use Rattle.model.specs.planning.Motion.{Tick}
use Rattle.model.specs.planning.Rows.{planned_axis, blend, blend_by, cells}
use Rattle.model.specs.planning.Job.{Job, JobAxis, set_axes, axes_of}
use Rattle.theorems.specs.GivenWeights.{with_weight, axes_with_weight, job_with_weight}
use Rattle.model.specs.planning.Quantities.{finer}
use Rattle.model.specs.planning.Refusals.{last_tick, limits_refused, damping_refused, blend_refused, sway_refused}
use Rattle.model.specs.planning.Refusals.{values_refused, acceleration_refused, flying_refused}
use Rattle.model.specs.planning.Refusals.{rest_allowed, target_allowed, AllPassed}
use Rattle.model.specs.planning.Outcome.{Outcome, outcome_of, answer_in, refuse, part_over, ordered, all_reach}
use Rattle.model.specs.planning.Outcome.{least_from}
use Rattle.model.specs.planning.Outcome.{arrives, reaches_none, filled, arrived}
use Rattle.model.specs.planning.Admission.{first_axis, Tests, axis_refusals, Admission, refused_at, admitted, tested}
use Rattle.theorems.proofs.jobs.MappedAxes.{cells-alike, Blind, AllBlind, first-mapped}
use Rattle.theorems.proofs.jobs.MappedAxes.{mask-mapped, reach-mapped, arrives-mapped, over-mapped}
use Rattle.theorems.proofs.jobs.MappedAxes.{filled-mapped}
use Rattle.theorems.proofs.jobs.MappedAxes.{asked-mapped, tested-mapped}

-- ---- the axes

target-with-weight : (x : Axis) (t : Target) → target_allowed (with_weight x) t ≡ target_allowed x t
target-with-weight x (Fixed r) = refl
target-with-weight x (Moving m) = refl

values-with-weight : Blind with_weight values_refused
values-with-weight x = ap (λ (b : Bool). not (rest_allowed x x.start && b)) (target-with-weight x x.target)

pub passed-with-weight : (l : List JobAxis) → AllPassed l → AllPassed (axes_with_weight l)
passed-with-weight [] p = tt
passed-with-weight (x ∷ l) (p, ps) = (
  record {
    limits = p.limits;
    damping = refl;
    blend = p.blend;
    sway = p.sway;
    values = values-with-weight x.axis ∙ p.values;
    acceleration = p.acceleration;
    resting = p.resting;
  },
  passed-with-weight l ps,
)

pub set-with-weight : (i m : ℕ) (six : List Axis)
    → set_axes i m (map with_weight six) ≡ axes_with_weight (set_axes i m six)
set-with-weight i m [] = refl
set-with-weight i m (x ∷ xs) = go (eqb (m % 2) 1) (set-with-weight (suc i) (m / 2) xs)
  where
    go : (b : Bool) → set_axes (suc i) (m / 2) (map with_weight xs) ≡ axes_with_weight (set_axes (suc i) (m / 2) xs)
        → (elim b as (λ _. List JobAxis) [
          | true ↦ record { number = i; axis = with_weight x } ∷ set_axes (suc i) (m / 2) (map with_weight xs)
          | false ↦ set_axes (suc i) (m / 2) (map with_weight xs)
        ])
        ≡ axes_with_weight
        (elim b as (λ _. List JobAxis) [
          | true ↦ record { number = i; axis = x } ∷ set_axes (suc i) (m / 2) xs
          | false ↦ set_axes (suc i) (m / 2) xs
        ])
    go true h = ap (λ (l : List JobAxis). record { number = i; axis = with_weight x } ∷ l) h
    go false h = h

-- ---- arrivals

-- of one axis both sides compute to the same
pub reach-with-weight : (l : List JobAxis) (n : ℕ) → all_reach (axes_with_weight l) n ≡ all_reach l n
unfolding finer
reach-with-weight l n = reach-mapped with_weight n (λ x. refl) l

pub arrives-with-weight : (j : Job) (n : ℕ) → arrives (job_with_weight j) n ≡ arrives j n
unfolding finer
arrives-with-weight j n = arrives-mapped with_weight n (λ x. refl) j

least-with-weight : (j : Job)
    → least_from (arrives (job_with_weight j)) 1 last_tick ≡ least_from (arrives j) 1 last_tick
least-with-weight j = ap (λ (t : ℕ → Bool). least_from t 1 last_tick) (λ i n. arrives-with-weight j n i)

none-with-weight : Blind with_weight (λ x. reaches_none x)
none-with-weight x =
    ap (λ (o : Option ℕ). elim o as (λ _. Bool) [ Some n ↦ false | None ↦ true ])
    (least-with-weight
    (record { mask = 0; asked = 0; axes = record { number = 0; axis = x } ∷ []; windows = no_windows }))

-- ---- the table

blend-with-weight : (n k : ℕ) (x : Axis) (f : Tick → ℤ)
    → blend (planned_axis n (with_weight x)) k f ≡ blend (planned_axis n x) k f
unfolding finer
blend-with-weight n k x f = go x.second_sway
  where
    go : (s : Option ℕ) → blend_by s (planned_axis n (with_weight x)) k f ≡ blend_by s (planned_axis n x) k f
    go None = refl
    go (Some d) = refl

cells-with-weight : (n k : ℕ) (x : Axis) → cells k (planned_axis n (with_weight x)) ≡ cells k (planned_axis n x)
unfolding finer
cells-with-weight n k x = cells-alike n k (with_weight x) x (blend-with-weight n k x) refl

-- ---- the outcome

abbrev after_damping : Tests
after_damping =
    (5, blend_refused) ∷ (15, sway_refused) ∷ (6, values_refused) ∷ (16, acceleration_refused) ∷
    (17, flying_refused) ∷ []

abbrev from_damping : Tests
from_damping = (12, damping_refused) ∷ after_damping

after_damping-blind : AllBlind with_weight after_damping
after_damping-blind = ((λ x. refl), ((λ x. refl), (values-with-weight, ((λ x. refl), ((λ x. refl), tt)))))

pub filled-with-weight : (j : Job) (n : ℕ) (lent : List ℤ) → filled (job_with_weight j) n lent ≡ filled j n lent
unfolding finer
filled-with-weight j n lent = filled-mapped with_weight n (cells-with-weight n) j lent

-- some of its rows
pub part-with-weight : (o : Order) (j : Job) (n i c : ℕ) (lent : List ℤ)
    → part_over o (axes_of (job_with_weight j)) n i c lent ≡ part_over o (axes_of j) n i c lent
unfolding finer
part-with-weight o j n i c lent = over-mapped with_weight n (cells-with-weight n) o j i c lent

-- the same with the rows in an order
pub ordered-with-weight : (o : Order) (j : Job) (lent : List ℤ) (r : Outcome)
    → ordered o (axes_of (job_with_weight j)) lent r ≡ ordered o (axes_of j) lent r
unfolding finer
ordered-with-weight Forwards j lent r = refl
ordered-with-weight Backwards j lent r =
    λ i.
    elim (eqb r.number 0) as (λ _. Outcome) [
      | true ↦ outcome_of (answer_in r)
          (over-mapped with_weight r.arrival (cells-with-weight r.arrival) Backwards j 0 (suc r.arrival) lent i)
      | false ↦ r
    ]

pub arrived-with-weight : (j : Job) (asked : ℕ) (lent : List ℤ)
    → arrived (job_with_weight j) asked lent ≡ arrived j asked lent
unfolding finer
arrived-with-weight j zero lent =
    λ i.
    elim (least-with-weight j i) as (λ _. Outcome) [
      | Some n ↦ filled-with-weight j n lent i
      | None ↦ refuse 9 0 (mask-mapped with_weight (λ x. reaches_none x) none-with-weight j.axes i) 0 lent
    ]
arrived-with-weight j (suc n) lent =
    asked-mapped with_weight (suc n) (omega arith) (λ x. refl) (cells-with-weight (suc n)) j lent

-- ---- the tests of the axes, of any call: it goes on by f, and a refusal by 12 has the number 12

none-refused : (l : List JobAxis) → first_axis damping_refused (axes_with_weight l) ≡ None
none-refused [] = refl
none-refused (x ∷ l) = none-refused l

module _ {X : Type 0} (f : Admission → X) (number : X → ℕ)
    (numbered : (p : ℕ) → number (f (refused_at 12 p)) ≡ 12) (j : Job)
    (same : f (admitted (job_with_weight j)) ≡ f (admitted j)) where
  by-damping : Job → Option ℕ → Admission
  by-damping i o = elim o [ Some k ↦ refused_at 12 k | None ↦ tested after_damping i ]

  damping : (o : Option ℕ) → (number (f (by-damping j o)) ≡ 12 → ⊥)
      → f (tested from_damping (job_with_weight j)) ≡ f (by-damping j o)
  unfolding by-damping
  damping (Some k) h = absurd (h (numbered k))
  damping None h =
      ap (λ (o : Option ℕ). f (by-damping (job_with_weight j) o)) (none-refused j.axes)
      ∙ tested-mapped with_weight f j same after_damping after_damping-blind

  by-limits : Job → Option ℕ → Admission
  by-limits i o = elim o [ Some k ↦ refused_at 4 k | None ↦ tested from_damping i ]

  limits : (o : Option ℕ) → (number (f (by-limits j o)) ≡ 12 → ⊥)
      → f (by-limits (job_with_weight j) o) ≡ f (by-limits j o)
  unfolding by-damping by-limits
  limits (Some k) h = refl
  limits None h = damping (first_axis damping_refused j.axes) h

  pub tests-with-weight : (number (f (tested axis_refusals j)) ≡ 12 → ⊥)
      → f (tested axis_refusals (job_with_weight j)) ≡ f (tested axis_refusals j)
  unfolding by-limits
  tests-with-weight h =
      ap (λ (o : Option ℕ). f (by-limits (job_with_weight j) o))
      (first-mapped with_weight limits_refused (λ x. refl) j.axes)
      ∙ limits (first_axis limits_refused j.axes) h
