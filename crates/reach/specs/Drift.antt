-- From one arrival to the next, where the target does not accelerate: by how
-- much the required sum changes.
use Rattle.std.specs.Prelude.{ℤ, pos, ◌*ℤ◌}
use Rattle.model.specs.declared.Axis.{Axis}
use Rattle.model.specs.declared.Target.{Target}
use Rattle.model.specs.declared.Target.TheVariants.{Fixed, Moving}
use Rattle.model.specs.planning.Quantities.{fine_steps, on_grid}

abbrev pub speed_of : Target → ℤ
speed_of (Fixed r) = r.velocity
speed_of (Moving m) = m.velocity

-- in fine steps, and on the axis's grid
abbrev pub drift_of : Target → ℤ
drift_of (Fixed r) = pos 0
drift_of (Moving m) = pos fine_steps *ℤ m.velocity

abbrev pub drift : Axis → ℤ
drift x = on_grid x (drift_of x.target)
