use Prim.Native.Nat.{ℕ, ◌-◌, ◌/◌, ◌^◌, ◌≤◌}
use mathlib.Core.Path.{◌≡◌, ap, ◌∙◌}
use native.Mathlib.Nat.{div-le_self}
use native.Mathlib.Omega.{arith}
use lib.IntN.{ℤ, pos, nat_abs, ◌-ℤ◌}
use lib.Signed.{◌<ℤ◌}
use mir.Syntax.{w64}
use mir.Val.{to_z, of_z}
use Rattle.whole.specs.Ranges.{Within}
use Rattle.whole.proofs.Bounds.{exactly, within, exact, le-taken, le_left}
use Rattle.whole.proofs.Differences.{whole, all₂}
use Rattle.regions.proofs.ThreeRegions.{ticks-up, ticks-down}
use Rattle.regions.proofs.ramp_ticks.Goals as goal

-- a number of ticks from a way of at most 2³⁸
ticks-is : (x y a n : ℕ) → x ≡ y → y ≤ 2 ^ 38 → y / a ≡ n → (x / a ≡ n) × (x / a ≤ 2 ^ 38)
ticks-is x y a n e h f = (ap (λ (z : ℕ). z / a) e ∙ f, omega (arith, div-le_self x a))

pub returns-then-v-c : goal.returns-then-v-c
returns-then-v-c c =
    let a = c.args in
    let way : to_z w64 (of_z w64 a.c) -ℤ to_z w64 (of_z w64 a.v) ≡ a.c -ℤ a.v = exactly (search exact depth 9) tt in
    let far : Within (2 ^ 38) (a.c -ℤ a.v) = within (search exact depth 9) tt in
    ticks-is _ _ a.limit _ (c.abs_diff.ensures ∙ ap nat_abs way) far.within
    (ticks-up a.limit a.v a.c (le-taken c.if-v-c.true (search exact depth 9) tt))

pub returns-else-v-c : goal.returns-else-v-c
returns-else-v-c c =
    let a = c.args in
    let above = le_left c.if-v-c.false (search exact depth 9) tt in
    let way : to_z w64 (of_z w64 a.v) -ℤ to_z w64 (of_z w64 a.c) ≡ a.v -ℤ a.c = exactly (search exact depth 9) tt in
    let far = less_one a.v a.c above c.requires.within c.requires.within_2 in
    ticks-is _ _ a.limit _ (ap (λ (n : ℕ). n - 1) (c.abs_diff-else-v-c.ensures ∙ ap nat_abs way) ∙ far.0) far.1.within
    (ticks-down a.limit a.v a.c above)
  where
    less_one : (v c : ℤ) → c <ℤ v → Within (2 ^ 37) v → Within (2 ^ 37) c
        → (nat_abs (v -ℤ c) - 1 ≡ nat_abs (v -ℤ c -ℤ pos 1)) × Within (2 ^ 38) (v -ℤ c -ℤ pos 1)
    less_one = all₂ _ (λ a b c d. simp whole (omega arith))
