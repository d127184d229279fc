use Prim.Native.Nat.{ℕ, ◌^◌, ◌≤◌}
use mathlib.Core.Path.{◌≡◌, sym, subst, ◌∙◌}
use native.Mathlib.Omega.{arith}
use lib.IntN.{ℤ, pos, ◌+ℤ◌, ◌*ℤ◌}
use mir.Syntax.{w64}
use mir.Val.{to_z, of_z}
use Rattle.whole.proofs.Bounds.{within, exactly, computed}
use Rattle.model.specs.planning.Motion.{landing_acceleration, arrival_velocity}
use Rattle.theorems.proofs.motions.Grid.{speed-range}
use Rattle.theorems.proofs.jobs.PassedAxis.{speed-limit}
use Rattle.motion.specs.declared.Landing.{Landing}
use Rattle.motion.proofs.PassedRanges.{ranges-of}
use Rattle.reach.proofs.Halves.{last-passing-of}
use Rattle.reach.proofs.last_slow.Goals as goal

-- the velocity at arrival, of a landing
abbrev arriving : Landing → ℕ → ℤ
arriving e h = e.velocity +ℤ pos h *ℤ e.acceleration

pub delay_of-delay-requires : goal.delay_of-delay-requires
delay_of-delay-requires c = ranges-of c.requires.passed

pub arrival_velocity-arrived-requires : goal.arrival_velocity-arrived-requires
arrival_velocity-arrived-requires c =
    let h = ranges-of c.requires.passed in
    record {
      within = within (search computed depth 9) tt;
      within_2 = within (search computed depth 9) tt;
      delay_bound = omega (arith, c.delay_of-delay.ensures, h.half_period, h.second_half_period);
    }

pub ticks_within-requires : goal.ticks_within-requires
ticks_within-requires c =
    record {
      limit_bound = subst (λ (n : ℕ). n ≤ 2 ^ 37) (sym c.limit_on_grid-limit.ensures)
          (speed-range c.args.x (speed-limit c.args.x c.requires.passed));
      within = within (search computed depth 9) tt;
    }

pub returns : goal.returns
returns c =
    let e = c.landing_at-landing in
    let d = c.delay_of-delay in
    let x = c.args.x in
    let n = c.args.n in
    let w : to_z w64 (of_z w64 c.arrival_velocity-arrived.result) ≡ arriving e.result d.result =
    exactly (search computed depth 9) tt in
    let u : arriving e.result d.result ≡ arrival_velocity x n =
    (λ i. e.ensures.velocity.is i +ℤ pos (d.ensures i) *ℤ e.ensures.acceleration.is i) in
    let α : to_z w64 (of_z w64 e.result.acceleration) ≡ landing_acceleration x n =
    exactly (search computed depth 9) tt in
    last-passing-of x c.requires.passed _ _ _ n c.args.last c.ticks_within.result c.limit_on_grid-limit.ensures
    (w ∙ u) α c.requires.x_bound c.requires.n_le_last c.ticks_within.ensures
