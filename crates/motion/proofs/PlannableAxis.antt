-- What an axis that can be planned for arrival n has: the parts of `reachable`, and the ranges of
-- its planned ends and its cruise.
use Prim.Native.Nat.{ℕ, ◌*◌, ◌^◌, ◌≤◌, ◌<◌}
use mathlib.Core.Path.{◌≡◌}
use mathlib.Core.Bool.{true}
use native.Mathlib.Omega.{arith}
use native.Mathlib.Nat.{mul-le-mul}
use lib.Dec.{T}
use lib.IntN.{ℤ, pos, nat_abs, ◌+ℤ◌, ◌*ℤ◌}
use Rattle.whole.specs.Ranges.{Within}
use Rattle.whole.proofs.Tests.{T_true, true-T}
use Rattle.whole.proofs.Bounds.{exact, within, mul_holds}
use Rattle.model.specs.declared.Axis.{Axis}
use Rattle.model.specs.planning.Leg.{feasible}
use Rattle.model.specs.planning.Quantities.{fine_steps, delay, as_moving, finer, speed_steps}
use Rattle.model.specs.planning.Motion.{reachable, shift, leg, displacement, start_position, start_velocity}
use Rattle.model.specs.planning.Motion.{landing_velocity, landing_acceleration, arrival_velocity}
use Rattle.model.specs.planning.Refusals.{Plannable}
use Rattle.theorems.proofs.motions.Reaches.{reach-after, reach-lands, reach-arrives, reach-feasible}
use Rattle.theorems.proofs.motions.Grid.{finer-range, speed-range, acceleration-range}
use Rattle.profile.specs.Profiles.{Ranged}
use Rattle.motion.specs.Motions.{Ranges}
use Rattle.motion.proofs.PassedRanges.{ranges-of}

start-within : (s p v : ℤ) → Within (2 ^ 16) s → Within (2 ^ 34) p → Within (2 ^ 20) v
    → Within (2 ^ 44) (pos (2 * fine_steps) *ℤ p +ℤ pos 2 *ℤ (s *ℤ v))
start-within s p v h k l = within (search exact depth 20) tt

start-fast : (f v : ℤ) → Within 256 f → Within (2 ^ 20) v → Within (2 ^ 37) (f *ℤ (pos fine_steps *ℤ v))
start-fast f v g h = within (search exact depth 20) tt

module _ {x : Axis} {n : ℕ} (r : Plannable x n) where
  -- ---- the parts of `reachable`

  reached : T (reachable x n)
  reached = true-T r.reach

  pub plannable-after : delay x < n
  plannable-after = reach-after x n reached

  pub plannable-landed : nat_abs (landing_velocity x n) ≤ speed_steps x
  plannable-landed = reach-lands x n reached

  pub plannable-arrived : nat_abs (arrival_velocity x n) ≤ speed_steps x
  plannable-arrived = reach-arrives x n reached

  pub plannable-feasible : feasible (leg x n) (displacement x n) ≡ true
  plannable-feasible = T_true (feasible (leg x n) (displacement x n)) (reach-feasible x n reached)

  -- ---- ranges

  pub plannable-ranges : Ranges x
  plannable-ranges = ranges-of r.passed

  grid-steps : Within 256 (pos (finer x))
  grid-steps = record { within = (finer-range x).1 }

  pub start-position-size : nat_abs (start_position x) ≤ finer x * 2 ^ 44
  start-position-size =
      let h = plannable-ranges in
      let s : Within (2 ^ 16) (shift x) =
      record { within = omega (arith, mul-le-mul h.second_weight h.half_period, h.second_half_period) } in
      mul_holds (pos (finer x)) (pos (2 * fine_steps) *ℤ x.start.position +ℤ pos 2 *ℤ (shift x *ℤ x.start.velocity))
      (finer x) (2 ^ 44) (omega arith)
      (start-within (shift x) x.start.position x.start.velocity s h.position h.velocity).within

  start-velocity-within : Within (2 ^ 37) (start_velocity x)
  start-velocity-within = start-fast (pos (finer x)) x.start.velocity grid-steps plannable-ranges.velocity

  pub landing-acceleration-size : nat_abs (landing_acceleration x n) ≤ finer x * 2 ^ 24
  landing-acceleration-size =
      let h = plannable-ranges.target n r.tick in
      mul_holds (pos (finer x)) (pos fine_steps *ℤ (as_moving x.target n).acceleration) (finer x) (2 ^ 24) (omega arith)
      (mul_holds (pos fine_steps) (as_moving x.target n).acceleration fine_steps (2 ^ 16)
      (omega arith) h.acceleration.within)

  pub profile-ranged : Ranged (leg x n)
  profile-ranged =
      let h = plannable-ranges in
      record {
        speed_limit = speed-range x h.speed_limit;
        acceleration_limit = acceleration-range x h.acceleration_limit;
        ticks = omega (arith, r.tick);
        start = start-velocity-within;
        end = record { within = omega (arith, plannable-landed, speed-range x h.speed_limit) };
      }
