-- A converted job has the outcome of the old one, by the old rules: `converted-outcome`. No test,
-- no asked arrival and no cell tells its axes from the old ones.
use Prim.Native.Nat.{ℕ, ◌≤◌}
use native.Mathlib.Omega.{arith}
use mathlib.Core.Path.{◌≡◌, refl, ap, ◌∙◌}
use mathlib.Core.Bool.{Bool, true, false, not, ◌&&◌, and-true}
use lib.IntN.{ℤ}
use lib.Dec.{leb}
use mathlib.Core.List.{List}
use borrow.Author.Tests.{le-leb, leb-true}
use Rattle.whole.proofs.Tests.{by_bool}
use Rattle.model.specs.declared.Axis.{Axis}
use Rattle.model.specs.declared.RestPoint.{RestPoint}
use Rattle.std.specs.Prelude.{Option, None, Some}
use Rattle.model.specs.declared.Target.{Target}
use Rattle.model.specs.declared.Target.TheVariants.{Fixed, Moving}
use Rattle.model.specs.planning.Job.{Job}
use Rattle.model.specs.planning.Quantities.{as_moving, acceleration_limit, finer}
use Rattle.model.specs.planning.Motion.{Tick, reachable}
use Rattle.model.specs.planning.Rows.{planned_axis, blend, blend_by, cells}
use Rattle.model.specs.planning.Refusals.{last_tick, rest_allowed, limits_refused, damping_refused, blend_refused}
use Rattle.model.specs.planning.Refusals.{sway_refused, values_refused, acceleration_refused, acceleration_refused_by}
use Rattle.model.specs.planning.Refusals.{flies}
use Rattle.model.specs.planning.Admission.{Admission, refused_at, tested}
use Rattle.model.specs.planning.Outcome.{Outcome, outcome_after, job_outcome_by}
use Rattle.model.specs.calls.Converter.{old_refusals, old_rules}
use Rattle.theorems.specs.Converter.{converted_target, with_target, converted_axis, converted_job}
use Rattle.theorems.proofs.jobs.MappedAxes.{cells-alike, Blind, AllBlind, asked-mapped, tested-mapped}

module _ (n : ℕ) where
  -- the fixed target r, read as moving with the tick n
  moved_to : RestPoint → Target
  moved_to r = Moving (as_moving (Fixed r) n)

  -- what reads a fixed target as moving for arrival n reads a converted axis alike
  kept : {A : Type 0} (F : Axis → A)
      → ((x : Axis) (r : RestPoint) → F (with_target x (moved_to r)) ≡ F (with_target x (Fixed r)))
      → (x : Axis) → F (converted_axis n x) ≡ F x
  unfolding moved_to
  kept F same x = by-target x.target
    where
      by-target : (g : Target) → F (with_target x (converted_target n g)) ≡ F (with_target x g)
      by-target (Fixed r) = by_bool (λ (g : Target). F (with_target x g) ≡ F (with_target x (Fixed r)))
          (flies (Fixed r)) _ _ (λ t. same x r) (λ t. refl)
      by-target (Moving m) = refl

  values-kept : n ≤ last_tick → Blind (converted_axis n) values_refused
  unfolding moved_to
  values-kept h =
      kept values_refused
      (λ x r.
      let slow : leb 0 (acceleration_limit x) ≡ true = le-leb 0 (acceleration_limit x) (omega arith) in
      let soon : leb n last_tick ≡ true = le-leb n last_tick h in
      (λ i. not (rest_allowed x x.start && (rest_allowed x r && (slow i && soon i))))
      ∙ ap (λ (b : Bool). not (rest_allowed x x.start && b)) (and-true (rest_allowed x r)))

  acceleration-kept : Blind (converted_axis n) acceleration_refused
  unfolding moved_to
  acceleration-kept = kept acceleration_refused (λ x r. still x.second_sway r)
    where
      still : (s : Option ℕ) (r : RestPoint)
          → acceleration_refused_by s (moved_to r) ≡ acceleration_refused_by s (Fixed r)
      still None r = refl
      still (Some d) r = refl

  old-blind : n ≤ last_tick → AllBlind (converted_axis n) old_refusals
  old-blind h = (
    kept limits_refused (λ x r. refl),
    (
      kept damping_refused (λ x r. refl),
      (kept blend_refused (λ x r. refl), (kept sway_refused (λ x r. refl), (values-kept h, (acceleration-kept, tt)))),
    ),
  )

  reach-kept : Blind (converted_axis n) (λ x. reachable x n)
  unfolding moved_to finer
  reach-kept = kept (λ x. reachable x n) (λ x r. refl)

  cells-kept : (k : ℕ) (x : Axis) → cells k (planned_axis n (converted_axis n x)) ≡ cells k (planned_axis n x)
  unfolding moved_to finer
  cells-kept k = kept (λ x. cells k (planned_axis n x))
      (λ x r. cells-alike n k (with_target x (moved_to r)) (with_target x (Fixed r)) (blends x r) refl)
    where
      by-sway : (x : Axis) (r : RestPoint) (f : Tick → ℤ) (s : Option ℕ)
          → blend_by s (planned_axis n (with_target x (moved_to r))) k f
          ≡ blend_by s (planned_axis n (with_target x (Fixed r))) k f
      by-sway x r f None = refl
      by-sway x r f (Some d) = refl

      blends : (x : Axis) (r : RestPoint) (f : Tick → ℤ)
          → blend (planned_axis n (with_target x (moved_to r))) k f
          ≡ blend (planned_axis n (with_target x (Fixed r))) k f
      blends x r f = by-sway x r f x.second_sway

-- an asked arrival: the same answer and the same table
pub converted-outcome : (j : Job) (lent : List ℤ) → 1 ≤ j.asked
    → job_outcome_by old_rules (converted_job j) lent ≡ job_outcome_by old_rules j lent
converted-outcome j lent h = go (leb j.asked last_tick) (leb-true j.asked last_tick)
  where
    go : (b : Bool) → (b ≡ true → j.asked ≤ last_tick)
        → ◌≡◌ {A = Outcome}
        (outcome_after lent
        (elim b as (λ _. Admission) [ true ↦ tested old_refusals (converted_job j) | false ↦ refused_at 3 1 ]))
        (outcome_after lent (elim b as (λ _. Admission) [ true ↦ tested old_refusals j | false ↦ refused_at 3 1 ]))
    go true f =
        let n = j.asked in
        tested-mapped (converted_axis n) (outcome_after lent) j
        (asked-mapped (converted_axis n) n h (reach-kept n) (cells-kept n) j lent) old_refusals
        (old-blind n (f refl))
    go false f = refl
