-- The plan of an axis for an arrival, and the ranges in which the code does not overflow
-- (docs/METHOD.md, sections 1 and 3).
use Rattle.std.specs.Prelude.{ℕ, suc, ◌+◌, ◌-◌, ◌*◌, ◌/◌, ◌^◌, ◌≤◌, ◌<◌, pos, ◌*ℤ◌, ℤ, ◌+ℤ◌, true, false, ltb}
use Rattle.whole.specs.Ranges.{Within}
use Rattle.model.specs.declared.Axis.{Axis}
use Rattle.model.specs.planning.Quantities.{half_period, second_weight, sway_delay, finer}
use Rattle.model.specs.planning.Motion.{leg, start_position, landing_acceleration, required_sum}
use Rattle.model.specs.planning.Refusals.{last_tick}
use Rattle.motion.specs.Motions.{destination}
use Rattle.regions.specs.Regions.{chosen_regions, RegionsRanged, velocity_in}
use Rattle.planned.specs.declared.AxisPlan.{AxisPlan}
use Rattle.std.specs.Prelude.{Option, None, Some}

-- ---- the plan

-- how many blends are added up: a second one for a second sway
abbrev pub blends_by : Option ℕ → ℕ
blends_by None = 1
blends_by (Some d) = 2

-- what both weights are multiplied by: all weights together are then 65,536, by the grid steps in a
-- fine step
abbrev pub scale : Axis → ℕ
scale x = 256 / blends_by x.second_sway / finer x

-- the plan of axis x for arrival n
abbrev pub plan_of : ℕ → Axis → AxisPlan
plan_of n x =
    record {
      origin = start_position x;
      destination = destination x n;
      regions = chosen_regions (leg x n) (required_sum x n);
      acceleration = landing_acceleration x n;
      half_period = half_period x;
      first_weight = scale x * (256 - second_weight x);
      second_weight = scale x * second_weight x;
      second_sway = x.second_sway;
    }

-- ---- the planned velocities

-- at tick k: below T that of its region, from T on the end velocity changed by the acceleration
unfoldable pub planned_at : AxisPlan → ℕ → ℤ
planned_at p k =
    elim (ltb k p.regions.ticks) [
      | true ↦ velocity_in p.regions k
      | false ↦ p.regions.end +ℤ pos (k - p.regions.ticks) *ℤ p.acceleration
    ]

-- d ticks before tick k: before tick 0 the planned motion is uniform
unfoldable pub velocity_back : AxisPlan → ℕ → ℕ → ℤ
velocity_back p d k = elim (ltb k d) [ true ↦ p.regions.start | false ↦ planned_at p (k - d) ]

-- ---- all weights together

abbrev pub total_weight : AxisPlan → ℕ
total_weight p = blends_by p.second_sway * (p.first_weight + p.second_weight)

-- ---- ranges: those of an axis that passed the refusals of one axis and
-- reaches the arrival, and wider

-- N = T + h + h₂
abbrev pub arrival_of : AxisPlan → ℕ
arrival_of p = p.regions.ticks + (p.half_period + sway_delay p.second_sway)

-- positions and velocities are small as the blends weigh them, whatever the grid is
pub record PlanRanges (p : AxisPlan) : Type 0 where
  pub light : total_weight p ≤ 2 ^ 16
  pub weighs : 256 ≤ total_weight p
  pub origin : Within (2 ^ 60) (pos (total_weight p) *ℤ p.origin)
  pub regions : RegionsRanged p.regions
  pub some : 0 < p.regions.ticks
  pub velocities : (k : ℕ) → k ≤ suc (arrival_of p) → Within (2 ^ 45) (pos (total_weight p) *ℤ planned_at p k)
  pub acceleration : Within (2 ^ 32) p.acceleration
  pub half_period : p.half_period ≤ 256
  pub second_sway : sway_delay p.second_sway ≤ 256
  pub last : arrival_of p ≤ last_tick
