use Prim.Native.Nat.{◌^◌}
use mathlib.Core.Path.{◌≡◌, ap, subst, ◌∙◌}
use native.Mathlib.Omega.{arith}
use lib.IntN.{ℤ, ◌-ℤ◌}
use mir.Syntax.{w64}
use mir.Val.{to_z, of_z}
use Rattle.whole.specs.Ranges.{Within}
use Rattle.whole.proofs.Bounds.{within, exactly, computed}
use Rattle.model.specs.planning.Motion.{start_position, start_velocity, landing_velocity, landing_acceleration}
use Rattle.model.specs.planning.Motion.{displacement}
use Rattle.theorems.proofs.jobs.PassedAxis.{some-acceleration}
use Rattle.theorems.proofs.motions.Grid.{speed-range, acceleration-range, acceleration-some}
use Rattle.motion.proofs.PassedRanges.{ranges-of}
use Rattle.reach.proofs.Approaching.{approach-is}
use Rattle.reach.proofs.Steady.{start-slow}
use Rattle.reach.proofs.approach.Approach.new.Goals as goal

pub displacement-requires : goal.displacement-requires
displacement-requires c =
    let l = c.landing_at-landing.ensures in
    record { passed = c.requires.passed; within = within (search computed depth 9) tt }

pub delay_of-requires : goal.delay_of-requires
delay_of-requires c = ranges-of c.requires.passed

pub returns : goal.returns
returns c =
    let e = c.landing_at-landing in
    let x = c.args.x in
    let n = c.args.n in
    let h = ranges-of c.requires.passed in
    let start : to_z w64 (of_z w64 c.start_velocity.result) ≡ start_velocity x =
    exactly (search computed depth 9) tt in
    let end : to_z w64 (of_z w64 e.result.velocity) ≡ landing_velocity x n = exactly (search computed depth 9) tt in
    let change : to_z w64 (of_z w64 e.result.acceleration) ≡ landing_acceleration x n =
    exactly (search computed depth 9) tt in
    let way : to_z w64 (of_z w64 c.displacement.result) ≡ e.result.position -ℤ start_position x =
    exactly (search computed depth 9) tt in
    let travel : to_z w64 (of_z w64 c.displacement.result) ≡ displacement x n =
    way ∙ ap (λ (z : ℤ). z -ℤ start_position x) e.ensures.position.is in
    approach-is x c.requires.passed c.requires.target_value n c.requires.x_bound _
    (λ i. record {
      speed_limit = c.limit_on_grid.ensures i;
      acceleration_limit = c.limit_on_grid-2.ensures i;
      start = start i;
      end = end i;
      change = change i;
      travel = travel i;
      ticks = c.landing_tick.ensures i;
      delay = c.delay_of.ensures i;
    })
    c.requires.n_le_last_tick
    (record {
      speed_limit = speed-range x h.speed_limit;
      acceleration_limit = acceleration-range x h.acceleration_limit;
      start = record { within = omega (arith, start-slow x c.requires.passed, speed-range x h.speed_limit) };
      end = record { within = e.ensures.velocity.within };
      change = record { within = e.ensures.acceleration.within };
      travel = subst (Within (2 ^ 60)) (ap (λ (z : ℤ). z -ℤ start_position x) e.ensures.position.is)
          (record { within = c.displacement.ensures.within });
      ticks = omega (arith, c.requires.n_le_last_tick);
      delay = omega (arith, h.half_period, h.second_half_period);
      acceleration = acceleration-some x (some-acceleration x c.requires.passed);
      some = omega (arith, c.requires.x_bound);
      slow = start-slow x c.requires.passed;
    })
