use Prim.Native.Nat.{ℕ, ◌^◌}
use mathlib.Core.Path.{◌≡◌, sym, ap, subst, ◌∙◌}
use mathlib.Core.Bool.{true}
use native.Mathlib.Omega.{arith}
use lib.IntN.{pos, ◌+ℤ◌}
use lib.Signed.{le_z, ◌≤ℤ◌}
use mir.Syntax.{w64}
use mir.Val.{to_z, of_z}
use Rattle.whole.specs.Ranges.{Within}
use Rattle.whole.proofs.Bounds.{sfits, exactly, le-taken, computed, is-of, then_is, le_is}
use Rattle.model.specs.planning.Leg.{Leg, fits_at}
use Rattle.profile.specs.Profiles.{Ranged}
use Rattle.cruise.proofs.ClimbSteps.{step-up, step-unfit, step-fast, step-inside}
use Rattle.cruise.proofs.Required.climb_step.Goals as goal
use Rattle.cruise.proofs.Required.climb_step.Goals.{else-next-limit-via-then-next-limit+else-sum_at-self}
use Rattle.cruise.proofs.Required.climb_step.Goals.{else-next-limit-via-else-next-limit}

pub overflow_add-next : goal.overflow_add-next
overflow_add-next g c =
    let ranged = subst Ranged c.p.view_is c.p.invariant in
    let w : Within (2 ^ 37) c.args.c =
    record { within = omega (arith, c.requires.within.within, ranged.speed_limit) } in
    sfits (search computed depth 20) tt

pub returns-then-sum_at-self : goal.returns-then-sum_at-self
returns-then-sum_at-self g c =
    let a = c.args in
    let p = a.self.now.profile in
    let ranged = subst Ranged c.p.view_is c.p.invariant in
    let fast = ap (λ (l : Leg). l.speed_limit) c.p.view_is in
    let w : Within (2 ^ 37) a.c =
    record { within = omega (arith, c.requires.within.within, ranged.speed_limit) } in
    let next = a.c +ℤ pos a.step in
    let next-is : to_z w64 (of_z w64 (to_z w64 (of_z w64 a.c) +ℤ to_z w64 (of_z w64 c.signed.result))) ≡ next =
    exactly (search computed depth 20) tt in
    let slow : le_z next (pos p.speed_limit) ≡ true =
    sym (le_is (search computed depth 20) tt ∙ ap (λ (n : ℕ). le_z next (pos n)) fast) ∙ c.if-next-limit.true in
    let small : Within p.speed_limit next =
    step-inside a.step p.speed_limit a.c c.requires.within
    (subst (λ (n : ℕ). next ≤ℤ pos n) fast (le-taken c.if-next-limit.true (search computed depth 20) tt)) in
    let fits : le_z (to_z w64 (of_z w64 c.sum_at.result))
    (to_z w64 (of_z w64 a.self.now.sum)) ≡ fits_at p a.self.now.sum next =
    le_is (search computed depth 9) tt ∙ (λ i. fits_at p a.self.now.sum (next-is i)) in
    then_is
    (record { is = next-is; within = omega (arith, small.within, ranged.speed_limit) })
    (step-up p a.self.now.sum a.c a.step slow (sym fits ∙ c.if-sum_at-self.true))

pub returns-else-next-limit : goal.returns-else-next-limit
returns-else-next-limit g c =
    let a = c.args in
    let p = a.self.now.profile in
    let ranged = subst Ranged c.p.view_is c.p.invariant in
    let fast = ap (λ (l : Leg). l.speed_limit) c.p.view_is in
    let w : Within (2 ^ 37) a.c =
    record { within = omega (arith, c.requires.within.within, ranged.speed_limit) } in
    let next = a.c +ℤ pos a.step in
    let next-is : to_z w64 (of_z w64 (to_z w64 (of_z w64 a.c) +ℤ to_z w64 (of_z w64 c.signed.result))) ≡ next =
    exactly (search computed depth 20) tt in
    elim c.else-next-limit.branch [
      | else-next-limit-via-then-next-limit+else-sum_at-self b ↦
          then_is (is-of (search computed depth 9) tt)
          (step-unfit p a.self.now.sum a.c a.step
          (sym (le_is (search computed depth 20) tt ∙ ap (λ (n : ℕ). le_z next (pos n)) fast) ∙ b.if-next-limit.true)
          (sym (le_is (search computed depth 9) tt ∙ (λ i. fits_at p a.self.now.sum (next-is i)))
          ∙ b.if-sum_at-self.false))
      | else-next-limit-via-else-next-limit b ↦
          then_is (is-of (search computed depth 9) tt)
          (step-fast p a.self.now.sum a.c a.step
          (sym (le_is (search computed depth 20) tt ∙ ap (λ (n : ℕ). le_z next (pos n)) fast) ∙ b.if-next-limit.false))
    ]
