-- The sums of the planned velocities of ticks 1 to k, and of those some ticks before: no tick is
-- visited.
use Prim.Native.Nat.{ℕ, zero, suc, ◌+◌, ◌-◌, ◌*◌, ◌^◌, ◌<◌, ◌≤◌}
use mathlib.Core.Path.{◌≡◌, sym, ap, ap₂, ◌∙◌}
use native.Mathlib.Omega.{arith}
use native.Mathlib.Nat.{mul-le-mul_left, mul-le-mul_right, mul-zero}
use lib.IntN.{ℤ, pos, nat_abs, ◌+ℤ◌, ◌*ℤ◌}
use Rattle.whole.specs.Integers.{sum_to}
use Rattle.whole.specs.Ranges.{Is}
use Rattle.whole.proofs.Laws.{nat_abs-+}
use Rattle.whole.proofs.Sums.{sum_same}
use Rattle.areas.specs.Areas.{ramp_area}
use Rattle.regions.specs.Regions.{velocity_in}
use Rattle.areas.proofs.RampSums.{parts, ramp-sum, level-sum}
use Rattle.planned.specs.declared.AxisPlan.{AxisPlan}
use Rattle.planned.specs.Plans.{arrival_of, PlanRanges, total_weight, planned_at, velocity_back}
use Rattle.planned.proofs.Velocities.{planned-before, planned-after, lands, back_early, back-late}
use Rattle.planned.proofs.PlannedRanges.{planned-within, back-weighed}

-- ---- sums of small numbers, times a weight

pub weighed-sum : (w b : ℕ) (f : ℕ → ℤ) (n : ℕ) → ((k : ℕ) → k ≤ n → w * nat_abs (f k) ≤ b)
    → w * nat_abs (sum_to f n) ≤ n * b
weighed-sum w b f zero h = omega (arith, mul-zero w)
weighed-sum w b f (suc n) h =
    omega (
      arith,
      weighed-sum w b f n (λ k q. h k (omega arith)),
      h (suc n) (omega arith),
      mul-le-mul_left w (nat_abs-+ (sum_to f n) (f (suc n))),
    )

pub small-sum : (b : ℕ) (f : ℕ → ℤ) (n : ℕ) → ((k : ℕ) → k ≤ n → nat_abs (f k) ≤ b) → nat_abs (sum_to f n) ≤ n * b
small-sum b f n h = omega (arith, weighed-sum 1 b f n (λ k q. omega (arith, h k q)))

-- ---- the planned velocities

module _ (p : AxisPlan) (k : ℕ) where
  pub sum-before : k < p.regions.ticks → sum_to (velocity_in p.regions) k ≡ sum_to (planned_at p) k
  sum-before h = sum_same (velocity_in p.regions) (planned_at p) k (λ j q. planned-before p j (omega arith))

module _ (p : AxisPlan) (k : ℕ) where
  pub sum-after : 0 < p.regions.ticks → p.regions.ticks ≤ k
      → sum_to (velocity_in p.regions) (p.regions.ticks - 1) +ℤ p.regions.end
      +ℤ ramp_area p.regions.end p.acceleration (k - p.regions.ticks)
      ≡ sum_to (planned_at p) k
  sum-after some h =
      ap₂ (λ (x y : ℤ). x +ℤ y) landed (sym later)
      ∙ sym (parts (planned_at p) T (k - T))
      ∙ ap (sum_to (planned_at p)) {x = T + (k - T)} {y = k} (omega arith)
    where
      T : ℕ
      T = p.regions.ticks

      landed : sum_to (velocity_in p.regions) (T - 1) +ℤ p.regions.end ≡ sum_to (planned_at p) T
      landed =
          ap₂ (λ (x y : ℤ). x +ℤ y) (sum-before p (T - 1) (omega arith)) (lands p (suc (T - 1)) (omega arith))
          ∙ ap (sum_to (planned_at p)) {x = suc (T - 1)} {y = T} (omega arith)

      later : sum_to (λ j. planned_at p (T + j)) (k - T) ≡ ramp_area p.regions.end p.acceleration (k - T)
      later =
          ramp-sum (λ j. planned_at p (T + j)) p.regions.end p.acceleration (k - T)
          (λ j l q.
          sym (planned-after p (T + j) (omega arith))
          ∙ ap (λ (m : ℕ). p.regions.end +ℤ pos m *ℤ p.acceleration) {x = T + j - T} {y = j} (omega arith))

-- ---- d ticks before

module _ (p : AxisPlan) (d k : ℕ) where
  pub back-sum-early : 0 < p.regions.ticks → k ≤ d → pos k *ℤ p.regions.start ≡ sum_to (velocity_back p d) k
  back-sum-early some h =
      sym (level-sum (velocity_back p d) p.regions.start k (λ j l q. sym (back_early p d j some (omega arith))))

  pub back-sum-late : 0 < p.regions.ticks → d ≤ k
      → pos d *ℤ p.regions.start +ℤ sum_to (planned_at p) (k - d) ≡ sum_to (velocity_back p d) k
  back-sum-late some h =
      ap₂ (λ (x y : ℤ). x +ℤ y)
      (sym (level-sum (velocity_back p d) p.regions.start d (λ j l q. sym (back_early p d j some (omega arith)))))
      (sum_same (planned_at p) (λ j. velocity_back p d (d + j)) (k - d)
      (λ j q. ap (planned_at p) {x = j} {y = d + j - d} (omega arith) ∙ back-late p d (d + j) (omega arith)))
      ∙ sym (parts (velocity_back p d) d (k - d))
      ∙ ap (sum_to (velocity_back p d)) {x = d + (k - d)} {y = k} (omega arith)

-- ---- of numbers that are known to be these, with their ranges

module _ (p : AxisPlan) (s : PlanRanges p) (k : ℕ) (last : k ≤ suc (arrival_of p)) where
  pub few : k ≤ 4097
  few = omega (arith, s.last)

  pub planned-sum-is : (v : ℤ) → v ≡ sum_to (planned_at p) k → Is (2 ^ 51) v (sum_to (planned_at p) k)
  planned-sum-is v e =
      record {
        is = e;
        within =
            omega (
              arith,
              few,
              small-sum (2 ^ 38) (planned_at p) k
                  (λ j q. (planned-within p s j (omega arith)).within),
            );
      }

  pub back-sum-is : (d : ℕ) (v : ℤ) → v ≡ sum_to (velocity_back p d) k → Is (2 ^ 51) v (sum_to (velocity_back p d) k)
  back-sum-is d v e =
      record {
        is = e;
        within = omega (arith, few, weighs, mul-le-mul_right (nat_abs (sum_to (velocity_back p d) k)) s.weighs);
      }
    where
      weighs : total_weight p * nat_abs (sum_to (velocity_back p d) k) ≤ k * 2 ^ 45
      weighs = weighed-sum (total_weight p) (2 ^ 45) (velocity_back p d) k (λ j q. back-weighed p s d j (omega arith))
