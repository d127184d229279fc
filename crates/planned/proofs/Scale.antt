-- The scale of a plan's weights: with it the cells of every grid, with one blend or two, are
-- counted in 1/65,536 of a fine step.
use Prim.Native.Nat.{ℕ, ◌+◌, ◌-◌, ◌*◌, ◌/◌, ◌≤◌, ◌<◌}
use mathlib.Core.Path.{◌≡◌, refl, sym, ap, subst, ◌∙◌}
use native.Mathlib.Omega.{arith}
use native.Mathlib.Nat.{mul-le-mul_left, mul-add, div-le_self, le_trans}
use lib.IntN.{ℤ, pos, nat_abs, ◌*ℤ◌}
use Rattle.whole.proofs.Laws.{nat_abs-*}
use Rattle.model.specs.declared.Axis.{Axis}
use Rattle.std.specs.Prelude.{Option, None, Some}
use Rattle.model.specs.planning.Quantities.{second_weight, finer}
use Rattle.model.specs.planning.Rows.{weights_by, divisor}
use Rattle.theorems.proofs.motions.Grid.{Grid, two_sways, still, unblended, undamped, corrected, grid}
use Rattle.planned.specs.Plans.{scale, plan_of, blends_by, total_weight}

-- what the scale has, with a second sway s and f grid steps in a fine step
abbrev Scales : Option ℕ → ℕ → Type 0
Scales s f = (256 / blends_by s / f * (weights_by s * f) ≡ 65536) × (0 < 256 / blends_by s / f)

-- each blend has weights of 256
weights-are : (s : Option ℕ) → weights_by s ≡ blends_by s * 256
weights-are None = refl
weights-are (Some d) = refl

module _ (x : Axis) where
  abbrev S : Option ℕ
  S = x.second_sway

  scale-is : Scales S (finer x)
  scale-is = go (grid x)
    where
      fine : finer x ≡ 1 → S ≡ None → Scales S (finer x)
      fine e t = subst (Scales S) (sym e) (subst (λ (s : Option ℕ). Scales s 1) (sym t) (refl, omega arith))

      go : Grid x → Scales S (finer x)
      go (two_sways d e t) =
          subst (Scales S) (sym e) (subst (λ (s : Option ℕ). Scales s 2) (sym t) (refl, omega arith))
      go (still e t a) = fine e t
      go (unblended e t a) = fine e t
      go (undamped e t a) = fine e t
      go (corrected e t) =
          subst (Scales S) (sym e) (subst (λ (s : Option ℕ). Scales s 256) (sym t) (refl, omega arith))

  pub scale-some : 0 < scale x
  scale-some = scale-is.1

  pub scale_small : scale x ≤ 256
  scale_small = le_trans (div-le_self (256 / blends_by S) (finer x)) (div-le_self 256 (blends_by S))

  pub scale-divides : scale x * divisor x ≡ 65536
  scale-divides = scale-is.0

  -- ---- all weights of a plan together, by the grid steps in a fine step

  pub weight_is : (n : ℕ) → second_weight x ≤ 256 → total_weight (plan_of n x) * finer x ≡ 65536
  weight_is n h =
      let b : 256 - second_weight x + second_weight x ≡ 256 = omega arith in
      together (blends_by S) (scale x) (256 - second_weight x) (second_weight x) (finer x) b
      ∙ ap (λ (w : ℕ). scale x * (w * finer x)) (sym (weights-are S))
      ∙ scale-divides
    where
      together : (c s a b f : ℕ) → a + b ≡ 256 → c * (s * a + s * b) * f ≡ s * (c * 256 * f)
      together c s a b f e = ap (λ (n : ℕ). c * n * f) (sym (mul-add s a b) ∙ ap (λ (n : ℕ). s * n) e) ∙ omega arith

  -- what is at most c fine steps in size is at most 65,536c by them
  pub weighed-within : (n c : ℕ) (v : ℤ) → second_weight x ≤ 256 → nat_abs v ≤ finer x * c
      → nat_abs (pos (total_weight (plan_of n x)) *ℤ v) ≤ 65536 * c
  weighed-within n c v h l =
      subst (λ (m : ℕ). m ≤ 65536 * c) (sym (nat_abs-* (pos (total_weight (plan_of n x))) v))
      (omega (arith, mul-le-mul_left (total_weight (plan_of n x)) l, ap (λ (m : ℕ). m * c) (weight_is n h)))
