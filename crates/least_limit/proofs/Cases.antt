-- The lesser and the greater of two numbers, by cases.
use Prim.Native.Nat.{ℕ, ◌≤◌}
use mathlib.Core.Path.{◌≡◌, refl, sym, subst}
use mathlib.Core.Bool.{Bool, true, false}
use native.Mathlib.Omega.{arith}
use Rattle.std.specs.Prelude.{min, max, leb}
use borrow.Author.Tests.{leb-true, leb-false}
use Rattle.std.proofs.Math.Nat.{min-eq_left, min-eq_right, max-eq_left, max-eq_right}

pub by-min : (P : ℕ → Type 0) (x y : ℕ) → (x ≤ y → P x) → (y ≤ x → P y) → P (min x y)
by-min P x y f g = go (leb x y) refl
  where
    go : (b : Bool) → leb x y ≡ b → P (min x y)
    go true e = let h = leb-true x y e in subst P (sym (min-eq_left h)) (f h)
    go false e = let h : y ≤ x = omega (arith, leb-false x y e) in subst P (sym (min-eq_right h)) (g h)

pub by-max : (P : ℕ → Type 0) (x y : ℕ) → (y ≤ x → P x) → (x ≤ y → P y) → P (max x y)
by-max P x y f g = go (leb x y) refl
  where
    go : (b : Bool) → leb x y ≡ b → P (max x y)
    go true e = let h = leb-true x y e in subst P (sym (max-eq_right h)) (g h)
    go false e = let h : y ≤ x = omega (arith, leb-false x y e) in subst P (sym (max-eq_left h)) (f h)
