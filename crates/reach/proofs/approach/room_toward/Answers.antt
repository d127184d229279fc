use Prim.Native.Nat.{◌^◌}
use mathlib.Core.Path.{◌≡◌, sym, ap, subst}
use mathlib.Core.Bool.{Bool, true, false, cond}
use lib.IntN.{ℤ, pos, ◌+ℤ◌, ◌-ℤ◌}
use lib.Signed.{lt_z}
use Rattle.whole.proofs.Bounds.{sfits, computed, back-id, cast-small, is-of, then_is}
use lib.IntN.{ℤ}
use Prim.Native.Nat.{ℕ}
use Rattle.reach.proofs.approach.room_toward.Goals as goal

-- which of the two it is
chosen : (l : ℕ) (v change : ℤ) (b : Bool) → lt_z change (pos 0) ≡ b
    → cond b (pos l +ℤ v) (pos l -ℤ v) ≡ cond (lt_z change (pos 0)) (pos l +ℤ v) (pos l -ℤ v)
chosen l v change b e = ap (λ (t : Bool). cond t (pos l +ℤ v) (pos l -ℤ v)) (sym e)

pub overflow_add-result : goal.overflow_add-result
overflow_add-result c =
    let l = cast-small (2 ^ 37) c.args.limit c.requires.limit_bound tt in
    sfits (search computed depth 20) tt

pub returns-then-change-lt0 : goal.returns-then-change-lt0
returns-then-change-lt0 c =
    let l = cast-small (2 ^ 37) c.args.limit c.requires.limit_bound tt in
    then_is (is-of (search computed depth 20) tt)
    (chosen c.args.limit c.args.velocity c.args.change true
    (subst (λ (z : ℤ). lt_z z (pos 0) ≡ true) (back-id c.ranges.change) c.if-change-lt0.true))

pub overflow_sub-result : goal.overflow_sub-result
overflow_sub-result c =
    let l = cast-small (2 ^ 37) c.args.limit c.requires.limit_bound tt in
    sfits (search computed depth 20) tt

pub returns : goal.returns
returns c =
    let l = cast-small (2 ^ 37) c.args.limit c.requires.limit_bound tt in
    then_is (is-of (search computed depth 20) tt)
    (chosen c.args.limit c.args.velocity c.args.change false
    (subst (λ (z : ℤ). lt_z z (pos 0) ≡ false) (back-id c.ranges.change) c.if-change-lt0.false))
