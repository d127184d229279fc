-- The weight of damping as measured: it is the largest that docs/METHOD.md asks for, and by
-- computation 128 for ratio 1 and 85 for ratio 0.5.
use Prim.Native.Nat.{ℕ, zero, suc, ◌-◌, ◌≤◌, ◌<◌}
use native.Mathlib.Omega.{arith}
use mathlib.Core.Path.{◌≡◌, refl, sym, ap, subst, ◌∙◌}
use mathlib.Core.Bool.{Bool, true, false, not, false≢true}
use mathlib.Core.Logic.{inl, inr}
use mathlib.Core.List.{[], ◌∷◌, map}
use lib.IntN.{ℤ, pos, negsuc}
use lib.Dec.{T, leb, leb→le, nleb→lt}
use lib.Ieee
use lib.Ieee.{Float, fin}
use Rattle.whole.proofs.Tests.{T-iff}
use Rattle.model.specs.declared.Damping.TheVariants.{Ratio, Peaks}
use Rattle.model.specs.declared.Weight.{Weight}
use Rattle.model.specs.declared.Weight.TheVariants.{Measured}
use Rattle.model.specs.planning.Damping.{meets, largest_to, ratio_weight, weight_of, IsLargest}

-- ---- one step of the search from above

step : Float → ℕ → Bool → ℕ
step r n b = elim b [ true ↦ suc n | false ↦ largest_to r n ]

largest_step : (r : Float) (n : ℕ) → largest_to r (suc n) ≡ step r n (meets r (suc n))
unfolding step largest_to
largest_step r n = refl

pub largest-none : (r : Float) → largest_to r 0 ≡ 1
unfolding largest_to
largest-none r = refl

pub largest-here : (r : Float) (n : ℕ) → 0 < n → meets r n ≡ true → largest_to r n ≡ n
unfolding step
largest-here r zero h e = absurd (omega arith)
largest-here r (suc n) h e = largest_step r n ∙ ap (step r n) e

missed : (r : Float) (n : ℕ) → meets r (suc n) ≡ false → largest_to r (suc n) ≡ largest_to r n
unfolding step
missed r n e = largest_step r n ∙ ap (step r n) e

pub largest-lower : (r : Float) (n : ℕ) → 0 < n → meets r n ≡ false → largest_to r n ≡ largest_to r (n - 1)
largest-lower r zero h e = absurd (omega arith)
largest-lower r (suc n) h e = missed r n e ∙ ap (largest_to r) {x = n} {y = suc n - 1} (omega arith)

-- ---- the method's words

-- a number that misses is passed over
skipped : (r : Float) (n c : ℕ) → meets r (suc n) ≡ false → c ≤ suc n → (c ≤ n → T (meets r c) → ⊥) → T (meets r c) → ⊥
skipped r n c e h lower t = go (leb c n) (leb→le c n) (nleb→lt c n)
  where
    go : (b : Bool) → (T b → c ≤ n) → (T (not b) → n < c) → ⊥
    go true f g = lower (f tt) t
    go false f g =
        let l : n < c = g tt in
        let is : c ≡ suc n = omega arith in
        false≢true (sym e ∙ ap (meets r) (sym is) ∙ (T-iff (meets r c)).0 t)

met-is : (r : Float) (n : ℕ) → meets r (suc n) ≡ true → IsLargest r (suc n) (largest_to r (suc n))
met-is r n e =
    subst (IsLargest r (suc n)) (sym (largest-here r (suc n) (omega arith) e))
    (record {
      first = omega arith;
      last = omega arith;
      met = inl ((T-iff (meets r (suc n))).1 e);
      larger = λ c l h t. absurd (omega arith);
    })

largest-is : (r : Float) (n : ℕ) → IsLargest r (suc n) (largest_to r (suc n))
largest-is r zero = go (meets r 1) refl
  where
    go : (b : Bool) → meets r 1 ≡ b → IsLargest r 1 (largest_to r 1)
    go true e = met-is r 0 e
    go false e =
        subst (IsLargest r 1) (sym (missed r 0 e ∙ largest-none r))
        (record {
          first = omega arith;
          last = omega arith;
          met = inr (refl, λ t. false≢true (sym e ∙ (T-iff (meets r 1)).0 t));
          larger = λ c l h t. absurd (omega arith);
        })
largest-is r (suc n) = go (meets r (suc (suc n))) refl (largest-is r n)
  where
    go : (b : Bool) → meets r (suc (suc n)) ≡ b → IsLargest r (suc n) (largest_to r (suc n))
        → IsLargest r (suc (suc n)) (largest_to r (suc (suc n)))
    go true e i = met-is r (suc n) e
    go false e i =
        subst (IsLargest r (suc (suc n))) (sym (missed r (suc n) e))
        (record {
          first = i.first;
          last = omega (arith, i.last);
          met = i.met;
          larger = λ c l h. skipped r (suc n) c e h (i.larger c l);
        })

pub weight-is-largest : (r : Float) → IsLargest r 128 (ratio_weight r)
weight-is-largest r = largest-is r 127

-- ---- by computation

-- a ratio, and a pair of peaks, m × 2ᵉ each
abbrev ratio : ℕ → ℤ → Weight
ratio m e = Measured (Ratio (fin false m e))

abbrev peaks : ℕ → ℤ → ℕ → ℤ → Weight
peaks m e n f = Measured (Peaks (fin false m e) (fin false n f))

-- ratios 1, 0.5 and 2⁻²⁰; peaks 3 and 1.5, 3 and 1, and the least float twice
pub weights : map weight_of
    (ratio 1 (pos 0) ∷ ratio 1 (negsuc 0) ∷ ratio 1 (negsuc 19) ∷ peaks 3 (pos 0) 3
    (negsuc 0) ∷ peaks 3 (pos 0) 1 (pos 0)
    ∷ peaks 1 (negsuc 148) 1 (negsuc 148) ∷ [])
    ≡ (128 ∷ 85 ∷ 1 ∷ 85 ∷ 64 ∷ 128 ∷ [])
unfolding largest_to meets Ieee.le Ieee.mul Ieee.div Ieee.of_int
weights = refl
