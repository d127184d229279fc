-- The refusals that one axis meets by itself (docs/METHOD.md, section 7, numbers 4 to 6, and 12,
-- 15, 16 and 17), in checking order, and what an axis has that none of them refuses.
use Rattle.std.specs.Prelude.{ℕ, ◌≤◌, ◌≡◌, Bool, true, false, not, ◌&&◌, List, [], ◌∷◌, ℤ, pos, negsuc, nat_abs, eqb}
use Rattle.std.specs.Prelude.{leb}
use Rattle.std.specs.Int.Signed.{le_z}
use Rattle.model.specs.declared.Axis.{Axis}
use Rattle.model.specs.declared.RestPoint.{RestPoint}
use Rattle.std.specs.Prelude.{Option, None, Some}
use Rattle.model.specs.declared.State.{State}
use Rattle.model.specs.declared.Target.{Target}
use Rattle.model.specs.declared.Target.TheVariants.{Fixed, Moving}
use Rattle.model.specs.planning.Quantities.{speed_limit, acceleration_limit, half_period, second_weight, accelerates}
use Rattle.model.specs.planning.Damping.{weight_allowed}
use Rattle.model.specs.planning.Motion.{reachable}
use Rattle.model.specs.planning.Job.{JobAxis}

-- from a to b
abbrev pub within : ℕ → ℕ → ℕ → Bool
within a b n = leb a n && leb n b

-- the last tick that an arrival, or in size a target's tick, may be
abbrev pub last_tick : ℕ
last_tick = 4096

-- ---- 4: L or M is outside its range

abbrev pub limits_refused : Axis → Bool
limits_refused x = not (within 1 1048576 (speed_limit x) && within 1 65536 (acceleration_limit x))

-- ---- 12: a first peak that is not above zero, or a ratio that is not a number above 0
-- and at most 1; also when h is 0

abbrev pub damping_refused : Axis → Bool
damping_refused x = not (weight_allowed x.second_weight)

-- ---- 5: h or B is outside its range, B also when h is 0

abbrev pub blend_refused : Axis → Bool
blend_refused x = not (within 0 256 (half_period x) && within 1 128 (second_weight x))

-- ---- 15: a second half period is outside its range

abbrev pub sway_allowed : Option ℕ → Bool
sway_allowed None = true
sway_allowed (Some d) = within 1 256 d

abbrev pub sway_refused : Axis → Bool
sway_refused x = not (sway_allowed x.second_sway)

-- ---- 6: start or target velocity exceeds L in size, target acceleration exceeds M in size, target
-- tick exceeds 4,096 in size, or a position is outside −17,179,869,184 to 17,179,869,183, which two
-- words hold (docs/METHOD.md, 6.3)

abbrev pub position_allowed : ℤ → Bool
position_allowed p = le_z (negsuc 17179869183) p && le_z p (pos 17179869183)

abbrev pub velocity_allowed : Axis → ℤ → Bool
velocity_allowed x v = leb (nat_abs v) (speed_limit x)

abbrev pub rest_allowed : Axis → RestPoint → Bool
rest_allowed x r = position_allowed r.position && velocity_allowed x r.velocity

-- the acceleration and the tick of a moving target
abbrev pub motion_allowed : Axis → State → Bool
motion_allowed x m = leb (nat_abs m.acceleration) (acceleration_limit x) && leb (nat_abs m.tick) last_tick

abbrev pub target_allowed : Axis → Target → Bool
target_allowed x (Fixed r) = rest_allowed x r
target_allowed x (Moving m) =
    rest_allowed x (record { position = m.position; velocity = m.velocity }) && motion_allowed x m

abbrev pub values_refused : Axis → Bool
values_refused x = not (rest_allowed x x.start && target_allowed x x.target)

-- ---- 16: the target of an axis with a second sway accelerates

abbrev pub acceleration_refused_by : Option ℕ → Target → Bool
acceleration_refused_by None g = false
acceleration_refused_by (Some d) g = accelerates g

abbrev pub acceleration_refused : Axis → Bool
acceleration_refused x = acceleration_refused_by x.second_sway x.target

-- ---- 17: a fixed target has a velocity that is not 0

abbrev pub flies : Target → Bool
flies (Fixed r) = not (eqb (nat_abs r.velocity) 0)
flies (Moving m) = false

abbrev pub flying_refused : Axis → Bool
flying_refused x = flies x.target

-- ---- what an axis has that none of them refuses

pub record Passed (x : Axis) : Type 0 where
  pub limits : limits_refused x ≡ false
  pub damping : damping_refused x ≡ false
  pub blend : blend_refused x ≡ false
  pub sway : sway_refused x ≡ false
  pub values : values_refused x ≡ false
  pub acceleration : acceleration_refused x ≡ false
  pub resting : flying_refused x ≡ false

abbrev pub AllPassed : List JobAxis → Type 0
AllPassed [] = Unit
AllPassed (x ∷ xs) = Passed x.axis × AllPassed xs

-- an axis that can be planned for arrival n
pub record Plannable (x : Axis) (n : ℕ) : Type 0 where
  pub passed : Passed x
  pub tick : n ≤ last_tick
  pub reach : reachable x n ≡ true
