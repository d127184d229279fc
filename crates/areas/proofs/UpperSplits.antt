-- The upper envelope is the least of three lines. So however its ticks are split into a ramp up
-- from the start, a level part and a ramp down to the end, their area is at least its sum
-- (`split-above`), and it is its sum where they are its own parts (`split-is`).
use Prim.Native.Nat.{ℕ, suc, ◌+◌, ◌-◌, ◌<◌}
use mathlib.Core.Path.{◌≡◌, refl, sym, ap, ap₂, subst, ◌∙◌}
use native.Mathlib.Omega.{arith}
use native.Mathlib.Nat.{mul_comm}
use lib.IntN.{ℤ, pos, ◌+ℤ◌, ◌*ℤ◌}
use lib.Signed.{◌≤ℤ◌}
use Rattle.whole.specs.Integers.{sum_to}
use Rattle.whole.proofs.Differences.{whole, all₂}
use Rattle.whole.proofs.Laws.{+ℤ-mono, nat_abs-iff}
use Rattle.whole.proofs.Sums.{sum_mono}
use Rattle.model.specs.planning.Leg.{Leg, upper}
use Rattle.theorems.proofs.legs.Envelopes.{Joined, since, until, highest}
use Rattle.areas.specs.declared.Parts.{Parts}
use Rattle.areas.specs.Areas.{ramp_area, area_of, split_area, upper_parts}
use Rattle.profile.proofs.FeasibleParts.{joined-ends}
use Rattle.regions.proofs.ThreeRegions.{change-up}
use Rattle.areas.proofs.RampSums.{parts, ramp-sum, level-sum, back_sum}
use Rattle.areas.proofs.EnvelopeAreas.{highest-area}

-- ---- each of the three lines is above the envelope at every tick

below-level : (l a b : ℕ) (s e : ℤ) → highest l a b s e ≤ℤ pos l
below-level l a b = all₂ _ (λ c d e f. simp whole (omega arith))

below-start : (l a b : ℕ) (s e : ℤ) → highest l a b s e ≤ℤ (s +ℤ pos a)
below-start l a b = all₂ _ (λ c d e f. simp whole (omega arith))

below_end : (l a b : ℕ) (s e : ℤ) → highest l a b s e ≤ℤ (e +ℤ pos b)
below_end l a b = all₂ _ (λ c d e f. simp whole (omega arith))

module _ (g : Leg) where
  abbrev a : ℕ
  a = g.acceleration_limit

  abbrev T : ℕ
  T = g.ticks

  on-start : (k : ℕ) → upper g k ≤ℤ (g.start +ℤ pos k *ℤ pos a)
  on-start k =
      subst (λ (n : ℕ). upper g k ≤ℤ (g.start +ℤ pos n)) (mul_comm a k)
      (below-start g.speed_limit (since g k) (until g k) g.start g.end)

  on-end : (k : ℕ) → upper g k ≤ℤ (g.end +ℤ pos (T - k) *ℤ pos a)
  on-end k =
      subst (λ (n : ℕ). upper g k ≤ℤ (g.end +ℤ pos n)) (mul_comm a (T - k))
      (below_end g.speed_limit (since g k) (until g k) g.start g.end)

  on-level : (k : ℕ) → upper g k ≤ℤ pos g.speed_limit
  on-level k = below-level g.speed_limit (since g k) (until g k) g.start g.end

  -- ---- the sum in three parts

  pub split-above : (p : Parts) → p.rising + p.level + p.falling ≡ T - 1 → sum_to (upper g) (T - 1) ≤ℤ split_area g p
  unfolding split_area
  split-above p all =
      subst (λ (z : ℤ). z ≤ℤ split_area g p) (sym whole_sum) (+ℤ-mono (+ℤ-mono first second) third)
    where
      m : ℕ
      m = p.rising

      n : ℕ
      n = p.level

      q : ℕ
      q = p.falling

      first : sum_to (upper g) m ≤ℤ ramp_area g.start (pos a) m
      first =
          subst (λ (z : ℤ). sum_to (upper g) m ≤ℤ z) (ramp-sum _ g.start (pos a) m (λ k h l. refl))
          (sum_mono (upper g) (λ k. g.start +ℤ pos k *ℤ pos a) m (λ k h. on-start k))

      second : sum_to (λ k. upper g (m + k)) n ≤ℤ (pos n *ℤ pos g.speed_limit)
      second =
          subst (λ (z : ℤ). sum_to (λ k. upper g (m + k)) n ≤ℤ z) (level-sum _ (pos g.speed_limit) n (λ k h l. refl))
          (sum_mono (λ k. upper g (m + k)) (λ k. pos g.speed_limit) n (λ k h. on-level (m + k)))

      third : sum_to (λ k. upper g (m + n + k)) q ≤ℤ ramp_area g.end (pos a) q
      third =
          subst (λ (z : ℤ). sum_to (λ k. upper g (m + n + k)) q ≤ℤ z)
          (back_sum _ g.end (pos a) q
          (λ k h l. ap (λ (j : ℕ). g.end +ℤ pos j *ℤ pos a) {x = T - (m + n + k)} {y = suc q - k} (omega arith)))
          (sum_mono (λ k. upper g (m + n + k)) (λ k. g.end +ℤ pos (T - (m + n + k)) *ℤ pos a) q
          (λ k h. on-end (m + n + k)))

      whole_sum : sum_to (upper g) (T - 1)
          ≡ (sum_to (upper g) m +ℤ sum_to (λ k. upper g (m + k)) n) +ℤ sum_to (λ k. upper g (m + n + k)) q
      whole_sum =
          ap (sum_to (upper g)) (sym all) ∙ parts (upper g) (m + n) q
          ∙ ap (λ (z : ℤ). z +ℤ sum_to (λ k. upper g (m + n + k)) q) (parts (upper g) m n)

  pub parts_all : (upper_parts g).rising + (upper_parts g).level + (upper_parts g).falling ≡ T - 1
  parts_all = omega arith

  -- at the speed limit both ramps go up
  pub split-is : Joined g → 0 < a → sum_to (upper g) (T - 1) ≡ split_area g (upper_parts g)
  unfolding split_area area_of
  split-is j some =
      sym (highest-area g some (joined-ends g j))
      ∙ ap₂ (λ (u v : ℤ). ramp_area g.start u (upper_parts g).rising
      +ℤ pos (upper_parts g).level *ℤ pos g.speed_limit
      +ℤ ramp_area g.end v (upper_parts g).falling)
      (sym (change-up a g.start (pos g.speed_limit) ((nat_abs-iff g.speed_limit g.start).0 j.start).1))
      (sym (change-up a g.end (pos g.speed_limit) ((nat_abs-iff g.speed_limit g.end).0 j.end).1))
