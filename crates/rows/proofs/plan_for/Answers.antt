use mathlib.Core.Path.{◌≡◌, refl, ap, ap₂, ◌∙◌}
use mathlib.Core.List.{List, ◌++◌}
use Prim.Native.Nat.{ℕ, ◌+◌, ◌/◌, ◌%◌, ◌≤◌, ◌<◌}
use native.Mathlib.Omega.{arith}
use borrow.Author.Tests.{eq-eqb, ne_eqb}
use lib.ListN.{length, get_or, set, take, length-set, get_or-replicate}
use lib.Seq.{get_or-set_other}
use Rattle.model.specs.declared.Axis.{Axis}
use Rattle.model.specs.planning.Job.{set_axes}
use Rattle.planned.specs.declared.AxisPlan.{AxisPlan}
use Rattle.rows.specs.Plans.{unset_plan}
use Rattle.rows.proofs.PlannableAxes.{all-plannable, plannable-next}
use Rattle.rows.proofs.FrontPlans.{plans_from, plan-put, plan-left-out}
use Rattle.rows.proofs.plan_for.Goals as goal
use Rattle.rows.proofs.plan_for.Goals.{then-rest-eq1, else-rest-eq1}

-- after a turn the plan of axis i is put after the others, or left out
record Turned (n i rest : ℕ) (axes : List Axis) (plans₀ : List AxisPlan) (count₀ : ℕ)
    (plans : List AxisPlan) (count : ℕ) : Type 0 where
  pub few : count ≤ count₀ + 1
  pub long : length plans ≡ length plans₀
  pub unset : (j : ℕ) → count ≤ j → j < 6 → get_or plans j unset_plan ≡ unset_plan
  pub done : take count plans ++ plans_from n (i + 1) (rest / 2) axes ≡ take count₀ plans₀ ++ plans_from n i rest axes

pub loop-x-init : goal.loop-x-init
loop-x-init c =
    record {
      low = omega arith;
      few = omega arith;
      six = omega arith;
      long = refl;
      unset = λ j h l. get_or-replicate 6 j _ unset_plan l ∙ c.unset_plan-plans.ensures;
      plannable = all-plannable c.args.n (set_axes 0 c.args.mask c.args.axes) c.requires.all_passed
          c.requires.n_le_last_tick c.requires.n_value;
      done = refl;
    }

pub loop-x-preserved : goal.loop-x-preserved
loop-x-preserved c =
    let a = c.args in
    let h = c.loop-x in
    let here : h.x-index < length a.axes = omega (arith, h.invariant.six) in
    let after = plans_from a.n (h.x-index + 1) (h.rest / 2) a.axes in
    let t : Turned a.n h.x-index h.rest a.axes h.plans h.count c.if-rest-eq1.plans c.if-rest-eq1.count =
    elim c.if-rest-eq1.branch [
      | then-rest-eq1 w ↦
          let is = w.plans-is ∙ ap (set h.plans h.count) w.axis_plan.ensures in
          record {
            few = omega (arith, w.count-is);
            long = ap (λ (ps : List AxisPlan). length ps) is ∙ length-set h.plans h.count _;
            unset = λ j q l. ap (λ (ps : List AxisPlan). get_or ps j unset_plan) is
                ∙ get_or-set_other h.plans h.count j _ unset_plan (λ e. omega (arith, w.count-is))
                ∙ h.invariant.unset j (omega (arith, w.count-is)) l;
            done =
                ap₂ (λ (k : ℕ) (ps : List AxisPlan). take k ps ++ after) w.count-is is
                ∙ plan-put a.n h.x-index h.rest a.axes here h.plans h.count (omega (arith, h.invariant.long))
                (eq-eqb (h.rest % 2) 1 w.if-rest-eq1.true);
          }
      | else-rest-eq1 w ↦
          record {
            few = omega (arith, w.count-is);
            long = ap (λ (ps : List AxisPlan). length ps) w.plans-is;
            unset = λ j q l. ap (λ (ps : List AxisPlan). get_or ps j unset_plan) w.plans-is
                ∙ h.invariant.unset j (omega (arith, w.count-is)) l;
            done =
                ap₂ (λ (k : ℕ) (ps : List AxisPlan). take k ps ++ after) w.count-is w.plans-is
                ∙ plan-left-out a.n h.x-index h.rest a.axes here (take h.count h.plans)
                (ne_eqb (h.rest % 2) 1 w.if-rest-eq1.false);
          }
    ] in
    record {
      low = omega arith;
      few = omega (arith, t.few, h.invariant.few);
      six = h.invariant.six;
      long = t.long ∙ h.invariant.long;
      unset = t.unset;
      plannable = plannable-next a.n h.x-index h.rest a.axes here h.invariant.plannable;
      done = t.done ∙ h.invariant.done;
    }
