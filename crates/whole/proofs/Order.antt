-- Tests of order as equations of Booleans, and a number brought between two.
use mathlib.Core.Path.{◌≡◌}
use mathlib.Core.Bool.{true, false}
use native.Mathlib.Omega.{arith}
use lib.IntN.{ℤ, pos, ◌+ℤ◌}
use lib.Signed.{le_z, ◌≤ℤ◌, ◌<ℤ◌, le_z_yes, clash_ℤ}
use Rattle.whole.specs.Integers.{clamp}
use Rattle.whole.proofs.Tests.{T_true, T_false}
use Rattle.whole.proofs.Differences.{whole, all₃, all₄}

-- ---- tests of order

pub le_yes : (x y : ℤ) → x ≤ℤ y → le_z x y ≡ true
le_yes x y h = T_true (le_z x y) h.le

pub le-no : (x y : ℤ) → y <ℤ x → le_z x y ≡ false
le-no x y h = T_false (le_z x y) (λ t. clash_ℤ h (le_z_yes t))

-- a number brought between two grows with it, by no more than it does
pub clamp-mono : (low high x y : ℤ) → x ≤ℤ y → clamp low high x ≤ℤ clamp low high y
clamp-mono = all₄ _ (λ a b c d e f g h. simp whole (omega arith))

pub clamp-next : (low high x : ℤ) → clamp low high (x +ℤ pos 1) ≤ℤ (clamp low high x +ℤ pos 1)
clamp-next = all₃ _ (λ a b c d e f. simp whole (omega arith))
