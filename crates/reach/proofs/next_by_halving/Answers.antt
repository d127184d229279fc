use Prim.Native.Nat.{ℕ, suc, ◌-◌, max}
use mathlib.Core.Path.{◌≡◌, ap, ◌∙◌}
use native.Mathlib.Omega.{arith}
use Rattle.model.specs.planning.Quantities.{delay}
use Rattle.model.specs.planning.Refusals.{last_tick}
use Rattle.motion.proofs.PassedRanges.{ranges-of}
use Rattle.reach.proofs.Approaching.{nearer}
use Rattle.reach.proofs.Steady.{none_after}
use Rattle.reach.proofs.Halves.{next-from}
use Rattle.reach.proofs.next_by_halving.Goals as goal

pub delay_of-delay-requires : goal.delay_of-delay-requires
delay_of-delay-requires c = ranges-of c.requires.passed

pub first_after-first-requires : goal.first_after-first-requires
first_after-first-requires c =
    let h = ranges-of c.requires.passed in
    omega (arith, c.delay_of-delay.ensures, h.half_period, h.second_half_period)

pub returns-then-last-first : goal.returns-then-last-first
returns-then-last-first c =
    let first-is : c.first_after-first.result ≡ max c.args.n (suc (delay c.args.x)) =
    c.first_after-first.ensures ∙ ap (λ (d : ℕ). max c.args.n (suc d)) c.delay_of-delay.ensures in
    none_after c.args.x c.args.n c.args.last c.requires.n_bound (omega (arith, first-is, c.if-last-first.true))

pub new-requires : goal.new-requires
new-requires c =
    let first-is : c.first_after-first.result ≡ max c.args.n (suc (delay c.args.x)) =
    c.first_after-first.ensures ∙ ap (λ (d : ℕ). max c.args.n (suc d)) c.delay_of-delay.ensures in
    record {
      passed = c.requires.passed;
      target_value = c.requires.target_value;
      n_le_last_tick = omega (arith, c.if-last-first.false, c.requires.last_le_last_tick);
      x_bound = omega (arith, first-is);
    }

pub next_later-requires : goal.next_later-requires
next_later-requires c =
    let n = c.first_after-first.result in
    nearer c.new.result (last_tick - n) (c.args.last - n) (omega (arith, c.requires.last_le_last_tick))
    c.new.ensures.approaches

pub overflow_add-result-2 : goal.overflow_add-result-2
overflow_add-result-2 c =
    omega (arith, c.next_later.ensures.high, c.if-last-first.false, c.requires.last_le_last_tick)

pub returns : goal.returns
returns c =
    let first-is : c.first_after-first.result ≡ max c.args.n (suc (delay c.args.x)) =
    c.first_after-first.ensures ∙ ap (λ (d : ℕ). max c.args.n (suc d)) c.delay_of-delay.ensures in
    next-from c.args.x c.args.n c.args.last c.first_after-first.result _ c.next_later.result first-is
    c.if-last-first.false c.new.ensures.same c.next_later.ensures
