use mathlib.Core.Path.{◌≡◌, sym, ap, subst, ◌∙◌}
use native.Mathlib.Omega.{arith}
use lib.IntN.{ℤ, pos, nat_abs}
use lib.Signed.{◌≤ℤ◌, ◌<ℤ◌, lt_z_yes, lt_z_no}
use mir.Syntax.{w64}
use mir.Val.{to_z, of_z}
use Rattle.whole.proofs.Bounds.{sfits, exactly, computed, back-id, nonneg-cast}
use Rattle.whole.proofs.Tests.{true-T, false-T}
use Rattle.reach.specs.Halving.{room_toward}
use Rattle.reach.proofs.Halves.{ticks-all, ticks-none, ticks-divided}
use Rattle.reach.proofs.approach.ticks_within.Goals as goal

pub returns-then-steps-eq0 : goal.returns-then-steps-eq0
returns-then-steps-eq0 c =
    let a = c.args in
    let steps-is : c.unsigned_abs-steps.result ≡ nat_abs a.change =
    c.unsigned_abs-steps.ensures.value ∙ ap nat_abs (back-id c.ranges.change) in
    ticks-all a.limit a.velocity a.change a.most (sym steps-is ∙ c.if-steps-eq0.true)

pub returns-then-room-lt0 : goal.returns-then-room-lt0
returns-then-room-lt0 c =
    let a = c.args in
    let room-is : to_z w64 (of_z w64 c.room_toward-room.result) ≡ room_toward a.limit a.velocity a.change =
    (let v = back-id c.ranges.velocity in
    let α = back-id c.ranges.change in
    exactly (search computed depth 9) tt ∙ (λ i. room_toward a.limit (v i) (α i))) in
    ticks-none a.limit a.velocity a.change a.most
    (subst (λ (z : ℤ). z <ℤ pos 0) room-is (lt_z_yes (true-T c.if-room-lt0.true)))

pub overflow_cast-ticks : goal.overflow_cast-ticks
overflow_cast-ticks c = nonneg-cast _ (lt_z_no (false-T c.if-room-lt0.false)) (sfits (search computed depth 9) tt)

pub returns : goal.returns
returns c =
    let a = c.args in
    let steps-is : c.unsigned_abs-steps.result ≡ nat_abs a.change =
    c.unsigned_abs-steps.ensures.value ∙ ap nat_abs (back-id c.ranges.change) in
    let room-is : to_z w64 (of_z w64 c.room_toward-room.result) ≡ room_toward a.limit a.velocity a.change =
    (let v = back-id c.ranges.velocity in
    let α = back-id c.ranges.change in
    exactly (search computed depth 9) tt ∙ (λ i. room_toward a.limit (v i) (α i))) in
    let room-some : pos 0 ≤ℤ to_z w64 (of_z w64 c.room_toward-room.result) = lt_z_no (false-T c.if-room-lt0.false) in
    ticks-divided a.limit a.velocity a.change a.most _ _ steps-is
    (omega (arith, c.if-steps-eq0.false)) room-is room-some
    _ (omega (arith, c.min.ensures)) (omega (arith, c.min.ensures)) (λ k h q. omega (arith, c.min.ensures))
