use Prim.Native.Nat.{ℕ, suc, ◌+◌, ◌-◌, ◌≤◌, max}
use mathlib.Core.Path.{◌≡◌, sym, ap, subst, subst₂, ◌∙◌}
use mathlib.Core.Bool.{Bool}
use native.Mathlib.Omega.{arith}
use lib.IntN.{ℤ, nat_abs, ◌-ℤ◌}
use mir.Syntax.{w64}
use mir.Val.{to_z, of_z}
use Rattle.whole.proofs.Bounds.{within, exactly, computed}
use Rattle.model.specs.planning.Leg.{Leg, required}
use Rattle.model.specs.planning.Motion.{start_position, leg, required_sum, reachable}
use Rattle.model.specs.planning.Quantities.{delay}
use Rattle.whole.specs.Candidates.{Next}
use Rattle.envelopes.specs.Sums.{between_at}
use Rattle.whole.specs.Candidates.{Lasting}
use Rattle.reach.specs.Drift.{drift}
use Rattle.motion.proofs.PassedRanges.{ranges-of}
use Rattle.reach.proofs.Steady.{start-slow, landing-slow, speed-slow, lasts, none_after, next-arrival}
use Rattle.reach.proofs.next_steady.Goals as goal

pub delay_of-delay-requires : goal.delay_of-delay-requires
delay_of-delay-requires c = ranges-of c.requires.passed

pub first_after-first-requires : goal.first_after-first-requires
first_after-first-requires c =
    let h = ranges-of c.requires.passed in
    omega (arith, c.delay_of-delay.ensures, h.half_period, h.second_half_period)

pub returns-then-last-first : goal.returns-then-last-first
returns-then-last-first c =
    none_after c.args.x c.args.n c.args.last c.requires.n_bound
    (omega (arith, c.delay_of-delay.ensures, c.first_after-first.ensures, c.if-last-first.true))

pub landing_at-landing-requires : goal.landing_at-landing-requires
landing_at-landing-requires c =
    record {
      passed = c.requires.passed;
      n_le_last_tick = omega (arith, c.if-last-first.false, c.requires.last_le_last_tick);
      x_bound = omega (arith, c.delay_of-delay.ensures, c.first_after-first.ensures);
    }

pub profile_of-p-requires : goal.profile_of-p-requires
profile_of-p-requires c =
    record {
      passed = c.requires.passed;
      n_le_last_tick = omega (arith, c.if-last-first.false, c.requires.last_le_last_tick);
      x_bound = omega (arith, c.delay_of-delay.ensures, c.first_after-first.ensures);
      landing_is = c.landing_at-landing.ensures;
      n_bound = landing-slow c.args.x c.requires.passed c.requires.target_value c.first_after-first.result;
    }

pub displacement-requires : goal.displacement-requires
displacement-requires c =
    let l = c.landing_at-landing.ensures in
    record { passed = c.requires.passed; within = within (search computed depth 9) tt }

pub required-sum-requires : goal.required-sum-requires
required-sum-requires c =
    record { within = within (search computed depth 9) tt }

pub drift-requires : goal.drift-requires
drift-requires c =
    record {
      within = omega (arith, speed-slow c.args.x c.requires.passed, (ranges-of c.requires.passed).speed_limit);
    }

pub next_feasible-ticks-requires : goal.next_feasible-ticks-requires
next_feasible-ticks-requires c =
    let x = c.args.x in
    let n = c.first_after-first.result in
    let f = c.profile_of-p in
    let sum-is : to_z w64 (of_z w64 c.required-sum.result) ≡ required_sum x n =
    (let l = c.landing_at-landing in
    let far : to_z w64 (of_z w64 c.displacement.result) ≡ l.result.position -ℤ start_position x =
    exactly (search computed depth 9) tt in
    let way = far ∙ ap (λ (z : ℤ). z -ℤ start_position x) l.ensures.position.is in
    exactly (search computed depth 9) tt ∙ (λ i. required (f.ensures.is i) (way i))) in
    let change-is : to_z w64 (of_z w64 c.drift.result) ≡ drift x = exactly (search computed depth 9) tt in
    let slow = subst (λ (p : Leg). (nat_abs p.start ≤ p.speed_limit) × (nat_abs p.end ≤ p.speed_limit))
    (sym f.ensures.is)
    (start-slow x c.requires.passed, landing-slow x c.requires.passed c.requires.target_value n) in
    let ticks : f.result.ticks ≡ n - delay x = ap (λ (p : Leg). p.ticks) f.ensures.is in
    record {
      acceleration_limit_nonzero = f.ensures.acceleration;
      ticks_nonzero = f.ensures.some;
      start_bound = slow.0;
      end_bound = slow.1;
      within = within (search computed depth 9) tt;
      within_2 = within (search computed depth 9) tt;
      ticks_le_last = omega (arith, ticks, c.if-last-first.false, c.delay_of-delay.ensures);
      last_bound = omega (arith, c.requires.last_le_last_tick);
      lasting =
          subst
          (λ (p : Leg).
          Lasting
          (between_at p (to_z w64 (of_z w64 c.required-sum.result)) (to_z w64 (of_z w64 c.drift.result)))
          p.ticks)
          (sym f.ensures.is)
          (subst₂ (λ (s d : ℤ). Lasting (between_at (leg x n) s d) (n - delay x)) (sym sum-is) (sym change-is)
          (lasts x c.requires.passed c.requires.target_value n
          (omega (arith, c.delay_of-delay.ensures, c.first_after-first.ensures))));
    }

pub overflow_cast-result : goal.overflow_cast-result
overflow_cast-result c = omega (arith, c.next_feasible-ticks.ensures.high, c.requires.last_le_last_tick)

pub overflow_add-result-2 : goal.overflow_add-result-2
overflow_add-result-2 c =
    let h = ranges-of c.requires.passed in
    let small : c.delay_of-delay.result ≤ 512 =
    omega (arith, c.delay_of-delay.ensures, h.half_period, h.second_half_period) in
    omega (arith, c.next_feasible-ticks.ensures.high, c.requires.last_le_last_tick, small)

pub returns : goal.returns
returns c =
    let x = c.args.x in
    let n = c.first_after-first.result in
    let f = c.profile_of-p in
    let sum-is : to_z w64 (of_z w64 c.required-sum.result) ≡ required_sum x n =
    (let l = c.landing_at-landing in
    let far : to_z w64 (of_z w64 c.displacement.result) ≡ l.result.position -ℤ start_position x =
    exactly (search computed depth 9) tt in
    let way = far ∙ ap (λ (z : ℤ). z -ℤ start_position x) l.ensures.position.is in
    exactly (search computed depth 9) tt ∙ (λ i. required (f.ensures.is i) (way i))) in
    let change-is : to_z w64 (of_z w64 c.drift.result) ≡ drift x = exactly (search computed depth 9) tt in
    let late = c.delay_of-delay in
    let from = c.first_after-first.ensures ∙ ap (λ (d : ℕ). max c.args.n (suc d)) late.ensures in
    let t = c.next_feasible-ticks.result in
    let last = c.args.last in
    subst (λ (d : ℕ). Next (reachable x) c.args.n last (t + d)) (sym late.ensures)
    (next-arrival x c.requires.passed c.requires.target_value c.args.n last n t from c.if-last-first.false
    (subst (λ (p : Leg). Next (between_at p (required_sum x n) (drift x)) p.ticks (last - delay x) t)
    f.ensures.is
    (subst (λ (d : ℕ). Next (between_at f.result (required_sum x n) (drift x)) f.result.ticks (last - d) t)
    late.ensures
    (subst (λ (g : ℕ → Bool). Next g f.result.ticks (last - late.result) t)
    (λ i. between_at f.result (sum-is i) (change-is i))
    c.next_feasible-ticks.ensures))))
