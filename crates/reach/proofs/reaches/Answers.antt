use Prim.Native.Nat.{ℕ, ◌<◌, ◌≤◌}
use mathlib.Core.Path.{◌≡◌, sym, ap, subst, subst₂, ◌∙◌}
use mathlib.Core.Bool.{Bool, ◌&&◌}
use native.Mathlib.Omega.{arith}
use lib.Dec.{ltb, leb}
use lib.IntN.{ℤ, pos, nat_abs, ◌+ℤ◌, ◌-ℤ◌, ◌*ℤ◌}
use mir.Syntax.{w64}
use mir.Val.{to_z, of_z}
use Rattle.whole.proofs.Bounds.{within, exactly, computed}
use Rattle.whole.proofs.Tests.{and_no, and_yes, leb_yes, leb_no, ltb_yes, ltb_no}
use Rattle.model.specs.planning.Leg.{Leg, feasible, sum_is_whole}
use Rattle.model.specs.declared.Axis.{Axis}
use Rattle.model.specs.planning.Quantities.{delay, speed_steps}
use Rattle.model.specs.planning.Motion.{start_position, landing_velocity, arrival_velocity, leg, displacement}
use Rattle.theorems.proofs.legs.WholeSum.{sum-is-whole}
use Rattle.motion.specs.declared.Landing.{Landing}
use Rattle.motion.proofs.PassedRanges.{ranges-of}
use Rattle.reach.proofs.Steady.{start-slow}
use Rattle.reach.proofs.reaches.Goals as goal

-- the two tests of speed
abbrev lands_slowly : Axis → ℕ → Bool
lands_slowly x n = leb (nat_abs (landing_velocity x n)) (speed_steps x)

abbrev arrives_slowly : Axis → ℕ → Bool
arrives_slowly x n = leb (nat_abs (arrival_velocity x n)) (speed_steps x)

-- the last test
abbrev moves : Axis → ℕ → Bool
moves x n = feasible (leg x n) (displacement x n)

-- the velocity at arrival, of a landing
abbrev arriving : Landing → ℕ → ℤ
arriving e h = e.velocity +ℤ pos h *ℤ e.acceleration

pub delay_of-delay-requires : goal.delay_of-delay-requires
delay_of-delay-requires c = ranges-of c.requires.passed

pub landing_at-landing-requires : goal.landing_at-landing-requires
landing_at-landing-requires c =
    record {
      passed = c.requires.passed;
      n_le_last_tick = c.requires.n_le_last_tick;
      x_bound = omega (arith, c.if-n-delay.false, c.delay_of-delay.ensures);
    }

pub arrival_velocity-arrived-requires : goal.arrival_velocity-arrived-requires
arrival_velocity-arrived-requires c =
    let h = ranges-of c.requires.passed in
    record {
      within = within (search computed depth 9) tt;
      within_2 = within (search computed depth 9) tt;
      delay_bound = omega (arith, c.delay_of-delay.ensures, h.half_period, h.second_half_period);
    }

pub profile_of-p-requires : goal.profile_of-p-requires
profile_of-p-requires c =
    let x = c.args.x in
    let n = c.args.n in
    let v : to_z w64 (of_z w64 c.landing_at-landing.result.velocity) ≡ landing_velocity x n =
    exactly (search computed depth 9) tt in
    let slow : nat_abs (landing_velocity x n) ≤ speed_steps x =
    subst₂ (λ (m l : ℕ). m ≤ l) (c.unsigned_abs.ensures.value ∙ ap nat_abs v) c.limit_on_grid-limit.ensures
    c.if-unsigned_abs-limit.false in
    record {
      passed = c.requires.passed;
      n_le_last_tick = c.requires.n_le_last_tick;
      x_bound = omega (arith, c.if-n-delay.false, c.delay_of-delay.ensures);
      landing_is = c.landing_at-landing.ensures;
      n_bound = slow;
    }

pub displacement-requires : goal.displacement-requires
displacement-requires c =
    let l = c.landing_at-landing.ensures in
    record { passed = c.requires.passed; within = within (search computed depth 9) tt }

pub makes-requires : goal.makes-requires
makes-requires c =
    let x = c.args.x in
    let n = c.args.n in
    let v : to_z w64 (of_z w64 c.landing_at-landing.result.velocity) ≡ landing_velocity x n =
    exactly (search computed depth 9) tt in
    let slow : nat_abs (landing_velocity x n) ≤ speed_steps x =
    subst₂ (λ (m l : ℕ). m ≤ l) (c.unsigned_abs.ensures.value ∙ ap nat_abs v) c.limit_on_grid-limit.ensures
    c.if-unsigned_abs-limit.false in
    let travelled : to_z w64 (of_z w64 c.displacement.result) ≡ displacement x n =
    (let l = c.landing_at-landing in
    let d : to_z w64 (of_z w64 c.displacement.result) ≡ l.result.position -ℤ start_position x =
    exactly (search computed depth 9) tt in
    d ∙ (λ i. l.ensures.position.is i -ℤ start_position x)) in
    let p = c.profile_of-p.ensures in
    record {
      acceleration_limit_nonzero = p.acceleration;
      ticks_nonzero = p.some;
      start_bound = subst (λ (p : Leg). nat_abs p.start ≤ p.speed_limit) (sym p.is)
          (start-slow x c.requires.passed);
      end_bound = subst (λ (p : Leg). nat_abs p.end ≤ p.speed_limit) (sym p.is) slow;
      within = within (search computed depth 9) tt;
      displacement_value = (λ i. sum_is_whole (p.is i) (travelled i)) ∙ sum-is-whole x n;
    }

pub returns-then-n-delay : goal.returns-then-n-delay
returns-then-n-delay c =
    let x = c.args.x in
    let n = c.args.n in
    let early : n ≤ delay x = omega (arith, c.if-n-delay.true, c.delay_of-delay.ensures) in
    and_no (ltb (delay x) n) (lands_slowly x n && (arrives_slowly x n && moves x n)) (ltb_no early)

pub returns-then-unsigned_abs-limit : goal.returns-then-unsigned_abs-limit
returns-then-unsigned_abs-limit c =
    let x = c.args.x in
    let n = c.args.n in
    let v : to_z w64 (of_z w64 c.landing_at-landing.result.velocity) ≡ landing_velocity x n =
    exactly (search computed depth 9) tt in
    let fast : speed_steps x < nat_abs (landing_velocity x n) =
    subst₂ (λ (m l : ℕ). l < m) (c.unsigned_abs.ensures.value ∙ ap nat_abs v) c.limit_on_grid-limit.ensures
    c.if-unsigned_abs-limit.true in
    let after : delay x < n = omega (arith, c.if-n-delay.false, c.delay_of-delay.ensures) in
    and_yes _ _ (ltb_yes after) (and_no _ (arrives_slowly x n && moves x n) (leb_no fast))

pub returns-then-unsigned_abs-limit-2 : goal.returns-then-unsigned_abs-limit-2
returns-then-unsigned_abs-limit-2 c =
    let x = c.args.x in
    let n = c.args.n in
    let v : to_z w64 (of_z w64 c.landing_at-landing.result.velocity) ≡ landing_velocity x n =
    exactly (search computed depth 9) tt in
    let slow : nat_abs (landing_velocity x n) ≤ speed_steps x =
    subst₂ (λ (m l : ℕ). m ≤ l) (c.unsigned_abs.ensures.value ∙ ap nat_abs v) c.limit_on_grid-limit.ensures
    c.if-unsigned_abs-limit.false in
    let e = c.landing_at-landing in
    let h = c.delay_of-delay in
    let w : to_z w64 (of_z w64 c.arrival_velocity-arrived.result) ≡ arriving e.result h.result =
    exactly (search computed depth 9) tt in
    let u : arriving e.result h.result ≡ arrival_velocity x n =
    (λ i. e.ensures.velocity.is i +ℤ pos (h.ensures i) *ℤ e.ensures.acceleration.is i) in
    let fast : speed_steps x < nat_abs (arrival_velocity x n) =
    subst₂ (λ (m l : ℕ). l < m) (c.unsigned_abs-2.ensures.value ∙ ap nat_abs (w ∙ u)) c.limit_on_grid-limit.ensures
    c.if-unsigned_abs-limit-2.true in
    let after : delay x < n = omega (arith, c.if-n-delay.false, c.delay_of-delay.ensures) in
    and_yes _ _ (ltb_yes after) (and_yes _ _ (leb_yes slow) (and_no _ (moves x n) (leb_no fast)))

pub returns : goal.returns
returns c =
    let x = c.args.x in
    let n = c.args.n in
    let v : to_z w64 (of_z w64 c.landing_at-landing.result.velocity) ≡ landing_velocity x n =
    exactly (search computed depth 9) tt in
    let slow : nat_abs (landing_velocity x n) ≤ speed_steps x =
    subst₂ (λ (m l : ℕ). m ≤ l) (c.unsigned_abs.ensures.value ∙ ap nat_abs v) c.limit_on_grid-limit.ensures
    c.if-unsigned_abs-limit.false in
    let e = c.landing_at-landing in
    let h = c.delay_of-delay in
    let w : to_z w64 (of_z w64 c.arrival_velocity-arrived.result) ≡ arriving e.result h.result =
    exactly (search computed depth 9) tt in
    let u : arriving e.result h.result ≡ arrival_velocity x n =
    (λ i. e.ensures.velocity.is i +ℤ pos (h.ensures i) *ℤ e.ensures.acceleration.is i) in
    let slow_too : nat_abs (arrival_velocity x n) ≤ speed_steps x =
    subst₂ (λ (m l : ℕ). m ≤ l) (c.unsigned_abs-2.ensures.value ∙ ap nat_abs (w ∙ u)) c.limit_on_grid-limit.ensures
    c.if-unsigned_abs-limit-2.false in
    let travelled : to_z w64 (of_z w64 c.displacement.result) ≡ displacement x n =
    (let l = c.landing_at-landing in
    let d : to_z w64 (of_z w64 c.displacement.result) ≡ l.result.position -ℤ start_position x =
    exactly (search computed depth 9) tt in
    d ∙ (λ i. l.ensures.position.is i -ℤ start_position x)) in
    let after : delay x < n = omega (arith, c.if-n-delay.false, c.delay_of-delay.ensures) in
    let moved : c.makes.result ≡ moves x n =
    c.makes.ensures ∙ (λ i. feasible (c.profile_of-p.ensures.is i) (travelled i)) in
    and_yes _ _ (ltb_yes after) (and_yes _ _ (leb_yes slow) (and_yes _ _ (leb_yes slow_too) moved))
