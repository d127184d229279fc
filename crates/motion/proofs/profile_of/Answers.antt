use Prim.Native.Nat.{ℕ, ◌^◌, ◌<◌, ◌≤◌}
use mathlib.Core.Path.{◌≡◌, sym, subst, ◌∙◌}
use native.Mathlib.Omega.{arith}
use mir.Syntax.{w64}
use mir.Val.{to_z, of_z}
use Rattle.whole.specs.Ranges.{Within}
use Rattle.whole.proofs.Bounds.{within, exactly, computed}
use Rattle.model.specs.planning.Motion.{start_velocity, landing_velocity}
use Rattle.theorems.proofs.jobs.PassedAxis.{some-acceleration}
use Rattle.theorems.proofs.motions.Grid.{speed-range, acceleration-range, acceleration-some}
use Rattle.motion.proofs.PassedRanges.{ranges-of}
use Rattle.motion.proofs.profile_of.Goals as goal

pub invariant_of-result : goal.invariant_of-result
invariant_of-result c =
    let a = c in
    let x = a.args.x in
    let h = ranges-of a.requires.passed in
    let speed = c.limit_on_grid.ensures in
    let acceleration = c.limit_on_grid-2.ensures in
    let ticks = c.from.ensures ∙ c.landing_tick.ensures in
    let end : to_z w64 (of_z w64 a.args.landing.velocity) ≡ landing_velocity x a.args.n =
    exactly (search computed depth 9) tt in
    record {
      speed_limit = subst (λ (l : ℕ). l ≤ 2 ^ 37) (sym speed) (speed-range x h.speed_limit);
      acceleration_limit =
          subst (λ (l : ℕ). l ≤ 2 ^ 33) (sym acceleration) (acceleration-range x h.acceleration_limit);
      ticks = omega (arith, ticks, a.requires.n_le_last_tick);
      start = within (search computed depth 9) tt;
      end = subst (Within (2 ^ 37)) (sym end)
          (record { within = omega (arith, a.requires.n_bound, speed-range x h.speed_limit) });
    }

pub returns : goal.returns
returns c =
    let a = c in
    let x = a.args.x in
    let n = a.args.n in
    let speed = c.limit_on_grid.ensures in
    let acceleration = c.limit_on_grid-2.ensures in
    let ticks = c.from.ensures ∙ c.landing_tick.ensures in
    let v = c.start_velocity.result in
    let start : to_z w64 (of_z w64 v) ≡ start_velocity x = exactly (search computed depth 9) tt in
    let end : to_z w64 (of_z w64 a.args.landing.velocity) ≡ landing_velocity x n =
    exactly (search computed depth 9) tt in
    record {
      is = (λ i. record {
        speed_limit = speed i;
        acceleration_limit = acceleration i;
        start = start i;
        end = end i;
        ticks = ticks i;
      });
      acceleration =
          subst (λ (l : ℕ). 0 < l) (sym acceleration) (acceleration-some x (some-acceleration x a.requires.passed));
      some = omega (arith, ticks, a.requires.x_bound);
    }
