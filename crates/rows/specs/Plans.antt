-- The plan of a job: the plans of its axes, one after the other (docs/METHOD.md, section 3).
use Rattle.std.specs.Prelude.{ℕ, ◌<◌, ◌≤◌, ◌≡◌, List, [], ◌∷◌, map, pos, length, get_or, take}
use Rattle.std.specs.Prelude.{None}
use Rattle.model.specs.planning.Job.{JobAxis}
use Rattle.planned.specs.declared.AxisPlan.{AxisPlan}
use Rattle.planned.specs.Plans.{plan_of, arrival_of, PlanRanges}
use Rattle.rows.specs.declared.Plan.{Plan}
use Rattle.blended.specs.BlendedStates.{LandsAt}

-- what stands after the last axis
abbrev pub unset_plan : AxisPlan
unset_plan =
    record {
      origin = pos 0;
      destination = pos 0;
      regions =
          record {
            start = pos 0;
            rise = 0;
            up = pos 0;
            cruise = pos 0;
            raised = 0;
            end = pos 0;
            fall = 0;
            down = pos 0;
            ticks = 0;
          };
      acceleration = pos 0;
      half_period = 0;
      first_weight = 0;
      second_weight = 0;
      second_sway = None;
    }

-- the plans of a list of axes for arrival n
abbrev pub plans_for : ℕ → List JobAxis → List AxisPlan
plans_for n xs = map (λ (x : JobAxis). plan_of n x.axis) xs

-- those of a job's plan
abbrev pub plans_of : Plan → List AxisPlan
plans_of plan = take plan.count plan.axes

-- the plan of the axes xs of mask m for arrival n
pub record PlanIs (m : ℕ) (xs : List JobAxis) (n : ℕ) (r : Plan) : Type 0 where
  pub plans : plans_of r ≡ plans_for n xs
  pub count : r.count ≡ length xs
  pub few : r.count ≤ 6
  pub unset : (i : ℕ) → r.count ≤ i → i < 6 → get_or r.axes i unset_plan ≡ unset_plan
  pub mask : r.mask ≡ m
  pub arrival : r.arrival ≡ n

-- what holds of every plan of a list
abbrev pub Each : (AxisPlan → Type 0) → List AxisPlan → Type 0
Each Q [] = Unit
Each Q (p ∷ ps) = Q p × Each Q ps

-- a plan whose rows can be written: each of its axes is within the ranges, goes on up
-- to the arrival and lands there
pub record Fillable (plan : Plan) : Type 0 where
  pub few : plan.count ≤ 6
  pub ranged : Each PlanRanges (plans_of plan)
  pub arrive : Each (λ p. plan.arrival ≤ arrival_of p) (plans_of plan)
  pub land : Each (LandsAt plan.arrival) (plans_of plan)
