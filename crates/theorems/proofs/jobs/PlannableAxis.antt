-- What an axis has that can be planned for an arrival: it passed the refusals of
-- one axis and reaches the arrival.
use Prim.Native.Nat.{ℕ, ◌^◌, ◌≤◌, ◌<◌}
use mathlib.Core.Path.{sym, subst}
use native.Mathlib.Omega.{arith}
use lib.Dec.{T}
use Rattle.model.specs.declared.Axis.{Axis}
use Rattle.model.specs.planning.Quantities.{second_weight, delay, speed_steps, acceleration_steps}
use Rattle.model.specs.planning.Leg.{feasible}
use Rattle.model.specs.planning.Motion.{reachable, leg, displacement}
use Rattle.model.specs.planning.Refusals.{Plannable}
use Rattle.theorems.proofs.motions.Grid as Grid
use Rattle.theorems.proofs.jobs.PassedAxis as Passed
use Rattle.theorems.proofs.motions.Reaches.{reach-after, reach-feasible}

module _ (x : Axis) (n : ℕ) (r : Plannable x n) where
  pub reached : T (reachable x n)
  reached = subst T (sym r.reach) tt

  pub after : delay x < n
  after = reach-after x n reached

  pub some-acceleration : 0 < acceleration_steps x
  some-acceleration = Grid.acceleration-some x (Passed.some-acceleration x r.passed)

  pub speed-range : speed_steps x ≤ 2 ^ 37
  speed-range = Grid.speed-range x (Passed.speed-limit x r.passed)

  pub moves : T (feasible (leg x n) (displacement x n))
  moves = reach-feasible x n reached

  pub weight-range : second_weight x ≤ 256
  weight-range = omega (arith, Passed.second-weight x r.passed)
