-- The ranges of an axis that passed the refusals of one axis, and what the
-- functions of this crate give back.
use Rattle.std.specs.Prelude.{ℕ, ◌^◌, ◌≤◌, ◌<◌, ◌≡◌, Bool, true, false, ℤ, pos, ◌+ℤ◌, ◌-ℤ◌, ◌*ℤ◌}
use Rattle.whole.specs.Ranges.{Within, Is}
use Rattle.model.specs.declared.Axis.{Axis}
use Rattle.model.specs.declared.State.{State}
use Rattle.model.specs.declared.Weight.{Weight}
use Rattle.model.specs.declared.Weight.TheVariants.{Given, Measured}
use Rattle.model.specs.planning.Quantities.{fine_steps, speed_limit, acceleration_limit, half_period, second_weight}
use Rattle.model.specs.planning.Quantities.{second_half_period, as_moving, twice_position_at, velocity_at}
use Rattle.model.specs.planning.Quantities.{on_grid}
use Rattle.model.specs.planning.Motion.{shift, landing_position, landing_velocity}
use Rattle.model.specs.planning.Motion.{landing_acceleration, leg}
use Rattle.model.specs.planning.Leg.{Leg}
use Rattle.model.specs.planning.Refusals.{last_tick}
use Rattle.motion.specs.declared.Landing.{Landing}

-- ---- ranges, in powers of two that hold what the refusals of one axis leave, and for positions
-- more

-- a target, read as moving
pub record StateRanges (m : State) : Type 0 where
  pub position : Within (2 ^ 34) m.position
  pub velocity : Within (2 ^ 20) m.velocity
  pub acceleration : Within (2 ^ 16) m.acceleration
  pub tick : Within last_tick m.tick

-- an axis; that one follows from `Passed` is the law `ranges-of`
pub record Ranges (x : Axis) : Type 0 where
  pub speed_limit : speed_limit x ≤ 2 ^ 20
  pub acceleration_limit : acceleration_limit x ≤ 2 ^ 16
  pub half_period : half_period x ≤ 256
  pub second_weight : second_weight x ≤ 128
  pub second_half_period : second_half_period x ≤ 256
  pub position : Within (2 ^ 34) x.start.position
  pub velocity : Within (2 ^ 20) x.start.velocity
  -- the target, for every arrival
  pub target : (n : ℕ) → n ≤ last_tick → StateRanges (as_moving x.target n)

-- ---- the second weight: one to be worked out from damping as measured

abbrev pub measured_by : Weight → Bool
measured_by (Given b) = false
measured_by (Measured d) = true

abbrev pub measured : Axis → Bool
measured x = measured_by x.second_weight

-- ---- rule 3: the planned motion for a target in motion m at tick k, which at the landing tick,
-- with the correction, is `landing_position` and `landing_velocity`

abbrev pub planned_position : Axis → State → ℕ → ℤ
planned_position x m k =
    on_grid x (pos fine_steps *ℤ twice_position_at m (pos k) +ℤ pos 2 *ℤ (shift x *ℤ velocity_at m (pos k)))

abbrev pub planned_velocity : Axis → State → ℕ → ℤ
planned_velocity x m k = on_grid x (pos fine_steps *ℤ velocity_at m (pos k) +ℤ shift x *ℤ m.acceleration)

abbrev pub gain : Axis → State → ℤ
gain x m =
    let h : ℤ = pos (half_period x) in
    let b : ℤ = pos (second_weight x) in
    pos 2 *ℤ (b *ℤ (h *ℤ h) *ℤ (b -ℤ pos 128) *ℤ m.acceleration)

-- twice the target's position at arrival n
abbrev pub destination : Axis → ℕ → ℤ
destination x n = twice_position_at (as_moving x.target n) (pos n)

-- the landing for arrival n
pub record LandingIs (x : Axis) (n : ℕ) (r : Landing) : Type 0 where
  pub position : Is (2 ^ 59) r.position (landing_position x n)
  pub velocity : Is (2 ^ 47) r.velocity (landing_velocity x n)
  pub acceleration : Is (2 ^ 32) r.acceleration (landing_acceleration x n)

-- ---- rule 4: the profile that stands for the leg of an arrival

pub record ProfileIs (x : Axis) (n : ℕ) (r : Leg) : Type 0 where
  pub is : r ≡ leg x n
  pub acceleration : 0 < r.acceleration_limit
  pub some : 0 < r.ticks
