-- How much the planned accelerations of an axis change in all (`planned_variation`), at most: 4μ +
-- |α| + 2 grid steps, μ being the acceleration limit and α the target's acceleration. To the limit,
-- to 0, to the limit again and from there to α; and twice one where a raise ends.
use Rattle.std.specs.Prelude.{ℕ, ◌+◌, ◌*◌, nat_abs}
use Rattle.model.specs.declared.Axis.{Axis}
use Rattle.model.specs.planning.Quantities.{acceleration_steps}
use Rattle.model.specs.planning.Motion.{landing_acceleration}
use Rattle.theorems.specs.Misfit.{SwayLeftHolds, MeasuredLeftHolds}

abbrev pub most_variation : Axis → ℕ → ℕ
most_variation x n = 4 * acceleration_steps x + nat_abs (landing_acceleration x n) + 2

-- so much is left of a sway
abbrev pub MostSwayHolds : Type 0
MostSwayHolds = SwayLeftHolds most_variation

-- and of a sway of a pole that was measured with an error
abbrev pub MostMeasuredHolds : Type 0
MostMeasuredHolds = MeasuredLeftHolds most_variation
