-- The quantities of a job and its targets (docs/METHOD.md, section 2).
use Rattle.std.specs.Prelude.{ℕ, ◌+◌, ◌*◌, Bool, true, false, not, ◌&&◌, ℤ, pos, nat_abs, ◌+ℤ◌, ◌-ℤ◌, ◌*ℤ◌, eqb}
use Rattle.model.specs.declared.Axis.{Axis}
use Rattle.std.specs.Prelude.{Option, None, Some}
use Rattle.model.specs.declared.State.{State}
use Rattle.model.specs.declared.Target.{Target}
use Rattle.model.specs.declared.Target.TheVariants.{Fixed, Moving}
use Rattle.model.specs.planning.Damping.{weight_of}

-- fine steps in a unit
abbrev pub fine_steps : ℕ
fine_steps = 256

-- L, M, h and B of an axis
abbrev pub speed_limit : Axis → ℕ
speed_limit x = x.speed_limit

abbrev pub acceleration_limit : Axis → ℕ
acceleration_limit x = x.acceleration_limit

abbrev pub half_period : Axis → ℕ
half_period x = x.half_period

abbrev pub second_weight : Axis → ℕ
second_weight x = weight_of x.second_weight

-- h₂, 0 where there is no second sway
abbrev pub sway_delay : Option ℕ → ℕ
sway_delay None = 0
sway_delay (Some d) = d

abbrev pub second_half_period : Axis → ℕ
second_half_period x = sway_delay x.second_sway

-- how far the blend looks back: h + h₂
abbrev pub delay : Axis → ℕ
delay x = half_period x + second_half_period x

-- a fixed target is read as moving, with a = 0 and t the arrival tick
abbrev pub as_moving : Target → ℕ → State
as_moving (Fixed r) n = record { position = r.position; velocity = r.velocity; acceleration = pos 0; tick = pos n }
as_moving (Moving m) n = m

-- twice the target's position at tick k: 2 (p + vd + ad²/2), d = k − t
abbrev pub twice_position_at : State → ℤ → ℤ
twice_position_at m k =
    let d : ℤ = k -ℤ m.tick in
    pos 2 *ℤ m.position +ℤ pos 2 *ℤ (m.velocity *ℤ d) +ℤ m.acceleration *ℤ (d *ℤ d)

-- its velocity at tick k: v + ad
abbrev pub velocity_at : State → ℤ → ℤ
velocity_at m k = m.velocity +ℤ m.acceleration *ℤ (k -ℤ m.tick)

-- ---- the grid on which an axis is planned

abbrev pub accelerates : Target → Bool
accelerates (Fixed r) = false
accelerates (Moving m) = not (eqb (nat_abs m.acceleration) 0)

-- the blend's two weights differ
abbrev pub damped : Axis → Bool
damped x = not (eqb (half_period x) 0) && not (eqb (second_weight x) 128)

-- steps of 1/512 and of 1/65,536 unit in a fine step
abbrev pub sway_steps : ℕ
sway_steps = 2

abbrev pub finest_steps : ℕ
finest_steps = 256

-- grid steps in a fine step: the grid is 1/512 unit where the pole has a second sway, 1/65,536 unit
-- where the target accelerates and the pole is damped, and else 1/256 unit
abbrev pub finer_by : Option ℕ → Bool → ℕ
finer_by (Some d) b = sway_steps
finer_by None true = finest_steps
finer_by None false = 1

unfoldable pub finer : Axis → ℕ
finer x = finer_by x.second_sway (accelerates x.target && damped x)

-- fine steps as grid steps, and half fine steps as half grid steps
abbrev pub on_grid : Axis → ℤ → ℤ
on_grid x z = pos (finer x) *ℤ z

-- L and M in grid steps
abbrev pub speed_steps : Axis → ℕ
speed_steps x = finer x * (fine_steps * speed_limit x)

abbrev pub acceleration_steps : Axis → ℕ
acceleration_steps x = finer x * (fine_steps * acceleration_limit x)
