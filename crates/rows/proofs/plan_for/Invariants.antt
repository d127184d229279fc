use mathlib.Core.Path.{◌≡◌}
use mathlib.Core.List.{◌++◌}
use Prim.Native.Nat.{ℕ, ◌≤◌, ◌<◌}
use lib.ListN.{length, get_or, take, drop}
use Rattle.model.specs.planning.Job.{set_axes}
use Rattle.rows.specs.Plans.{unset_plan, plans_for}
use Rattle.rows.proofs.PlannableAxes.{AllPlannable}
use Rattle.rows.proofs.FrontPlans.{plans_from}
use Rattle.rows.proofs.plan_for.Given as goal

-- the plans of the axes before axis i stand first
abbrev pub invariant-loop-x : goal.invariant-loop-x
invariant-loop-x l =
    record {
      low : l.x-index ≤ 6;
      few : l.count ≤ l.x-index;
      six : length l.fn.axes ≡ 6;
      long : length l.plans ≡ 6;
      unset : (j : ℕ) → l.count ≤ j → j < 6 → get_or l.plans j unset_plan ≡ unset_plan;
      plannable : AllPlannable l.fn.n (set_axes l.x-index l.rest (drop l.x-index l.fn.axes));
      done : take l.count l.plans ++ plans_from l.fn.n l.x-index l.rest l.fn.axes
          ≡ plans_for l.fn.n (set_axes 0 l.fn.mask l.fn.axes);
    }
