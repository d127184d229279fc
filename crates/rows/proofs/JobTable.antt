-- The rows of a job's plan are the definition's table.
use mathlib.Core.Path.{◌≡◌, refl, sym, ap, ap₂, subst, ◌∙◌}
use mathlib.Core.List.{List, [], ◌∷◌, ◌++◌, map, flatten}
use Prim.Native.Nat.{ℕ, suc, ◌+◌, ◌*◌, ◌≤◌}
use native.Mathlib.Omega.{arith}
use lib.IntN.{ℤ}
use lib.ListN.{length, drop, length-map}
use Rattle.model.specs.declared.Axis.{Axis}
use Rattle.model.specs.declared.Order.{Order}
use Rattle.model.specs.planning.Rows.{planned_axis, tabulate, row, row_at, part}
use Rattle.model.specs.planning.Job.{JobAxis, set_axes, axes_of, typed_job}
use Rattle.model.specs.planning.Refusals.{last_tick}
use Rattle.model.specs.planning.Outcome.{part_over}
use Rattle.theorems.proofs.tables.CellPlaces.{row-place}
use Rattle.theorems.proofs.tables.Reversed.{tabulate-same}
use Rattle.rows.specs.Plans.{plans_for, plans_of, PlanIs, Each, Fillable}
use Rattle.planned.specs.Plans.{arrival_of, PlanRanges}
use Rattle.planned.specs.declared.AxisPlan.{AxisPlan}
use Rattle.rows.specs.declared.Plan.{Plan}
use Rattle.blended.specs.BlendedStates.{LandsAt}
use Rattle.rows.specs.Table.{plan_row, plan_part, rows_over}
use Rattle.blended.proofs.BlendedTicks.{cells_are, lands}
use Rattle.rows.proofs.PlannableAxes.{AllPlannable, all-ranged, all-arrive}

row_is : (n k : ℕ) (xs : List JobAxis) → AllPlannable n xs → k ≤ n
    → plan_row (plans_for n xs) k ≡ row (map (planned_axis n) (map (λ (x : JobAxis). x.axis) xs)) k
unfolding flatten
row_is n k [] r h = refl
row_is n k (x ∷ xs) r h =
    ap₂ ◌++◌ (cells_are x.axis n k r.0 h) (row_is n k xs r.1 h)

all-land : (n : ℕ) (xs : List JobAxis) → AllPlannable n xs → Each (LandsAt n) (plans_for n xs)
all-land n [] r = tt
all-land n (x ∷ xs) r = (lands x.axis n r.0, all-land n xs r.1)

-- ---- a plan that is the job's

module _ (m n : ℕ) (xs : List Axis) (plannable : AllPlannable n (set_axes 0 m xs)) (plan : Plan)
    (is : PlanIs m (set_axes 0 m xs) n plan) where
  pub fillable : Fillable plan
  fillable =
      record {
        few = is.few;
        ranged = subst (Each PlanRanges) (sym is.plans) (all-ranged n (set_axes 0 m xs) plannable);
        arrive = of (λ k p. k ≤ arrival_of p) (all-arrive n (set_axes 0 m xs) plannable);
        land = of LandsAt (all-land n (set_axes 0 m xs) plannable);
      }
    where
      of : (Q : ℕ → AxisPlan → Type 0) → Each (Q n) (plans_for n (set_axes 0 m xs))
          → Each (Q plan.arrival) (plans_of plan)
      of Q h = subst (λ (k : ℕ). Each (Q k) (plans_of plan)) (sym is.arrival) (subst (Each (Q n)) (sym is.plans) h)

  pub plan-arrives : n ≤ last_tick → plan.arrival ≤ last_tick
  plan-arrives h = omega (arith, is.arrival)

  pub plan-inside : (j c : ℕ) → j + c ≤ suc n → j + c ≤ suc plan.arrival
  plan-inside j c h = omega (arith, is.arrival)

  pub plan-fits : (c : ℕ) (t : List ℤ) → 3 * length (set_axes 0 m xs) * c ≤ length t → 3 * plan.count * c ≤ length t
  plan-fits c t h = subst (λ (k : ℕ). 3 * k * c ≤ length t) (sym is.count) h

  part-is : (o : Order) (j c : ℕ) → j + c ≤ suc n → plan_part o plan j c ≡ part o (axes_of (typed_job m n xs)) n j c
  part-is o j c h =
      ap₂ (λ (ps : List AxisPlan) (k : ℕ). flatten (tabulate (λ i. plan_row ps (row_at o k i)) j c))
      is.plans is.arrival
      ∙ ap flatten
      (tabulate-same (λ i. plan_row (plans_for n (set_axes 0 m xs)) (row_at o n i))
      (λ i. row (map (planned_axis n) (axes_of (typed_job m n xs))) (row_at o n i)) j c
      (λ i q. row_is n (row_at o n i) (set_axes 0 m xs) plannable (row-place o n i (omega arith))))

  plans-long : length (plans_of plan) ≡ length (axes_of (typed_job m n xs))
  plans-long = ap length is.plans ∙ length-map (set_axes 0 m xs) _ ∙ sym (length-map (set_axes 0 m xs) _)

  pub plan-rows : (o : Order) (j c : ℕ) (lent : List ℤ) → j + c ≤ suc n
      → rows_over o plan j c lent ≡ part_over o (axes_of (typed_job m n xs)) n j c lent
  plan-rows o j c lent h = λ i. part-is o j c h i ++ drop (3 * plans-long i * c) lent
