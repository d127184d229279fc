-- The sums of the velocities of ticks 1 to k after the blends, and the state at tick k by
-- them: no tick before it is visited.
use Prim.Native.Nat.{ℕ, zero, suc, ◌+◌, ◌*◌, ◌^◌, ◌≤◌}
use mathlib.Core.Path.{◌≡◌, refl, sym, ap, subst, ◌∙◌}
use mathlib.Core.List.{[], ◌∷◌}
use native.Mathlib.Omega.{arith}
use native.Mathlib.Nat.{mul-le-mul_right}
use lib.IntN.{ℤ, pos, nat_abs, ◌+ℤ◌, ◌-ℤ◌, ◌*ℤ◌}
use Rattle.whole.specs.Integers.{sum_to}
use Rattle.whole.specs.Ranges.{Is}
use Rattle.whole.proofs.Laws.{nat_abs-*}
use Rattle.whole.proofs.Ring.{pol, same}
use Rattle.std.specs.Prelude.{Option, None, Some}
use Rattle.planned.specs.declared.AxisPlan.{AxisPlan}
use Rattle.blended.specs.declared.BlendedState.{BlendedState}
use Rattle.planned.specs.Plans.{arrival_of, PlanRanges, total_weight, velocity_back}
use Rattle.blended.specs.BlendedStates.{mix, added, blended_back, blended_velocity, blended_position, blended_state_at}
use Rattle.planned.proofs.PlannedRanges.{back-weighed, blends-some}
use Rattle.blended.proofs.BlendedRanges.{once_by, velocity-within}
use Rattle.planned.proofs.PlannedSums.{weighed-sum, small-sum, few}

-- ---- the blends

sum-mix : (a b : ℕ) (f g : ℕ → ℤ) (n : ℕ) → mix a b (sum_to f n) (sum_to g n) ≡ sum_to (λ k. mix a b (f k) (g k)) n
sum-mix a b f g zero = none (pos a) (pos b)
  where
    none : (a b : ℤ) → a *ℤ pos 0 +ℤ b *ℤ pos 0 ≡ pos 0
    none a b = same (a ∷ b ∷ []) (search pol depth 20 fits 9000) tt
sum-mix a b f g (suc n) =
    ring (pos a) (pos b) (sum_to f n) (f (suc n)) (sum_to g n) (g (suc n))
    ∙ ap (λ (z : ℤ). z +ℤ mix a b (f (suc n)) (g (suc n))) (sum-mix a b f g n)
  where
    ring : (a b x y u v : ℤ) → a *ℤ (x +ℤ y) +ℤ b *ℤ (u +ℤ v) ≡ (a *ℤ x +ℤ b *ℤ u) +ℤ (a *ℤ y +ℤ b *ℤ v)
    ring a b x y u v = same (a ∷ b ∷ x ∷ y ∷ u ∷ v ∷ []) (search pol depth 20 fits 9000) tt

sum_added : (s : Option ℕ) (f : ℕ → ℕ → ℤ) (n : ℕ)
    → added s (λ d. sum_to (f d) n) ≡ sum_to (λ k. added s (λ d. f d k)) n
sum_added None f n = refl
sum_added (Some d) f zero = refl
sum_added (Some d) f (suc n) =
    ring (sum_to (f 0) n) (f 0 (suc n)) (sum_to (f d) n) (f d (suc n))
    ∙ ap (λ (z : ℤ). z +ℤ (f 0 (suc n) +ℤ f d (suc n))) (sum_added (Some d) f n)
  where
    ring : (x y u v : ℤ) → (x +ℤ y) +ℤ (u +ℤ v) ≡ (x +ℤ u) +ℤ (y +ℤ v)
    ring x y u v = same (x ∷ y ∷ u ∷ v ∷ []) (search pol depth 20 fits 9000) tt

-- ---- the state at tick k, from that at tick 0

pub position-by-sum : (p : AxisPlan) (k : ℕ)
    → blended_position p 0 +ℤ blended_velocity p 0 +ℤ pos 2 *ℤ sum_to (blended_velocity p) k -ℤ blended_velocity p k
    ≡ blended_position p k
unfolding blended_position
position-by-sum p zero = ring (blended_position p 0) (blended_velocity p 0)
  where
    ring : (q v : ℤ) → q +ℤ v +ℤ pos 2 *ℤ pos 0 -ℤ v ≡ q
    ring q v = same (q ∷ v ∷ []) (search pol depth 20 fits 9000) tt
position-by-sum p (suc k) =
    ring (blended_position p 0) (blended_velocity p 0) (sum_to (blended_velocity p) k)
    (blended_velocity p k) (blended_velocity p (suc k))
    ∙ ap (λ (z : ℤ). z +ℤ blended_velocity p k +ℤ blended_velocity p (suc k)) (position-by-sum p k)
  where
    ring : (q v s w u : ℤ) → q +ℤ v +ℤ pos 2 *ℤ (s +ℤ u) -ℤ u ≡ q +ℤ v +ℤ pos 2 *ℤ s -ℤ w +ℤ w +ℤ u
    ring q v s w u = same (q ∷ v ∷ s ∷ w ∷ u ∷ []) (search pol depth 20 fits 9000) tt

-- ---- of numbers that are known to be these, with their ranges

module _ (p : AxisPlan) (s : PlanRanges p) (k : ℕ) (last : k ≤ suc (arrival_of p)) where
  abbrev A : ℕ
  A = p.first_weight

  abbrev B : ℕ
  B = p.second_weight

  -- each weight times its sum is small
  back-sum-by : (d : ℕ) → total_weight p * nat_abs (sum_to (velocity_back p d) k) ≤ 2 ^ 58
  back-sum-by d =
      omega (
        arith,
        few p s k last,
        weighed-sum (total_weight p) (2 ^ 45) (velocity_back p d) k
            (λ j q. back-weighed p s d j (omega arith)),
      )

  pub weighed-within : (w d : ℕ) → w ≤ total_weight p → nat_abs (pos w *ℤ sum_to (velocity_back p d) k) ≤ 2 ^ 58
  weighed-within w d h =
      subst (λ (n : ℕ). n ≤ 2 ^ 58) (sym (nat_abs-* (pos w) (sum_to (velocity_back p d) k)))
      (omega (arith, back-sum-by d, mul-le-mul_right (nat_abs (sum_to (velocity_back p d) k)) h))

  pub weights-light : (A ≤ total_weight p) × (B ≤ total_weight p)
  weights-light =
      let h = mul-le-mul_right (A + B) (blends-some p.second_sway) in
      (omega (arith, h), omega (arith, h))

  pub blend-sum-is : (d : ℕ) (v a b : ℤ) → v ≡ mix A B a b → a ≡ sum_to (velocity_back p d) k
      → b ≡ sum_to (velocity_back p (d + p.half_period)) k
      → Is (2 ^ 59) v (sum_to (blended_back p d) k)
  unfolding blended_back
  blend-sum-is d v a b e f g =
      record {
        is = e ∙ (λ i. mix A B (f i) (g i)) ∙ sum-mix A B (velocity_back p d) (velocity_back p (d + p.half_period)) k;
        within = omega (arith, few p s k last, small-sum (2 ^ 46) (blended_back p d) k (λ j q. once j (omega arith)));
      }
    where
      once : (j : ℕ) → j ≤ suc (arrival_of p) → nat_abs (blended_back p d j) ≤ 2 ^ 46
      once j h = omega
          (arith, once_by p s d j h, mul-le-mul_right (nat_abs (blended_back p d j)) (blends-some p.second_sway))

  pub blends-sum-is : (v : ℤ) → v ≡ added p.second_sway (λ d. sum_to (blended_back p d) k)
      → Is (2 ^ 59) v (sum_to (blended_velocity p) k)
  unfolding blended_velocity
  blends-sum-is v e =
      record {
        is = e ∙ sum_added p.second_sway (blended_back p) k;
        within =
            omega (
              arith,
              few p s k last,
              small-sum (2 ^ 46) (blended_velocity p) k
                  (λ j q. (velocity-within p s j (omega arith)).within),
            );
      }

-- ---- the state, from its parts

pub state-by-sum : (p : AxisPlan) (k : ℕ) (q v : ℤ)
    → q ≡ blended_position p 0 +ℤ blended_velocity p 0 +ℤ pos 2 *ℤ sum_to (blended_velocity p) k -ℤ blended_velocity p k
    → v ≡ blended_velocity p k
    → ◌≡◌ {A = BlendedState} (record { position = q; velocity = v }) (blended_state_at p k)
state-by-sum p k q v e f = λ i. record { position = (e ∙ position-by-sum p k) i; velocity = f i }
