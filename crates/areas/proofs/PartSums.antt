-- The area under the velocities of the first ticks is their sum: `area-to-is-sum`.
use Prim.Native.Nat.{ℕ, suc, ◌+◌, ◌-◌, ◌≤◌, ◌<◌, min}
use mathlib.Core.Path.{◌≡◌, sym, ap, ap₂, ◌∙◌}
use mathlib.Core.List.{[], ◌∷◌}
use native.Mathlib.Omega.{arith}
use lib.IntN.{ℤ, pos, ◌+ℤ◌, ◌*ℤ◌}
use Rattle.whole.specs.Integers.{sum_to}
use Rattle.whole.proofs.Ring.{pol, same}
use Rattle.regions.specs.declared.Regions.{Regions}
use Rattle.regions.specs.Regions.{velocity_in}
use Rattle.areas.specs.Areas.{ramp_area, last_level, rising_to, level_to, falling_to, fall_area, area_to}
use Rattle.areas.proofs.RampSums.{parts, ramp-sum, raised-sum, back_sum}
use Rattle.regions.proofs.ChosenRegions.{in_start, in_end, in-raised, in-level}

-- ---- the ticks of the parts: the first ramp up to tick a, the level part up to tick s

module _ (a k s : ℕ) where
  pub parts_all : min a k + (min k s - a) + (k - min a k - (min k s - a)) ≡ k
  parts_all = omega arith

  module _ (j : ℕ) (some : 0 < j) where
    level-from : j ≤ min k s - a → min a k ≡ a
    level-from h = omega arith

    level-to : j ≤ min k s - a → min a k + j ≤ s
    level-to h = omega arith

    fall-from : j ≤ k - min a k - (min k s - a) → a < min a k + (min k s - a) + j
    fall-from h = omega arith

    fall-past : j ≤ k - min a k - (min k s - a) → s < min a k + (min k s - a) + j
    fall-past h = omega arith

-- a tick of the level part, one of the ramp to the end, and how far from the end it is
before-fall : (t f j : ℕ) → 0 < j → j ≤ t - 1 - f → j + f < t
before-fall t f j h q = omega arith

on-fall : (t f j : ℕ) → t - 1 - f < j → t ≤ j + f
on-fall t f j h = omega arith

until : (t k b n j : ℕ) → k ≤ t - 1 → b + n ≡ k → 0 < j → j ≤ n → t - (b + j) ≡ t - 1 - k + (suc n - j)
until t k b n j l e h q = omega arith

module _ (r : Regions) (k : ℕ) (below : k ≤ r.ticks - 1) where
  abbrev f : ℕ → ℤ
  f = velocity_in r

  first : sum_to f (rising_to r k) ≡ ramp_area r.start r.up (rising_to r k)
  first = ramp-sum f _ _ (rising_to r k) (λ j h q. in_start r j (omega arith))

  second : sum_to (λ j. f (rising_to r k + j)) (level_to r k)
      ≡ pos (level_to r k) *ℤ r.cruise +ℤ pos (min r.raised (level_to r k))
  second =
      raised-sum _ r.cruise r.raised (level_to r k)
      (λ j h q u.
      let e = level-from r.rise k (last_level r) j h q in
      let l = level-to r.rise k (last_level r) j h q in
      in-raised r (rising_to r k + j) (after j h e)
      (before-fall r.ticks r.fall (rising_to r k + j) (some j h) l) (low j u e))
      (λ j h q u.
      let e = level-from r.rise k (last_level r) j h q in
      let l = level-to r.rise k (last_level r) j h q in
      in-level r (rising_to r k + j) (after j h e)
      (before-fall r.ticks r.fall (rising_to r k + j) (some j h) l) (high j u e))
    where
      some : (j : ℕ) → 0 < j → 0 < rising_to r k + j
      some j h = omega arith

      after : (j : ℕ) → 0 < j → rising_to r k ≡ r.rise → r.rise < rising_to r k + j
      after j h e = omega arith

      low : (j : ℕ) → j ≤ r.raised → rising_to r k ≡ r.rise → rising_to r k + j - r.rise ≤ r.raised
      low j h e = omega arith

      high : (j : ℕ) → r.raised < j → rising_to r k ≡ r.rise → r.raised < rising_to r k + j - r.rise
      high j h e = omega arith

  third : sum_to (λ j. f (rising_to r k + level_to r k + j)) (falling_to r k) ≡ fall_area r k (falling_to r k)
  unfolding fall_area
  third =
      back_sum _ _ _ (falling_to r k)
      (λ j h q.
      in_end r (rising_to r k + level_to r k + j) (fall-from r.rise k (last_level r) j h q)
      (on-fall r.ticks r.fall (rising_to r k + level_to r k + j) (fall-past r.rise k (last_level r) j h q))
      ∙ ap (λ (m : ℕ). r.end +ℤ pos m *ℤ r.down)
      (until r.ticks k (rising_to r k + level_to r k) (falling_to r k) j below
      (parts_all r.rise k (last_level r)) h q)
      ∙ further r.end r.down (pos (r.ticks - 1 - k)) (pos (suc (falling_to r k) - j)))
    where
      further : (e d x y : ℤ) → e +ℤ (x +ℤ y) *ℤ d ≡ e +ℤ x *ℤ d +ℤ y *ℤ d
      further e d x y = same (e ∷ d ∷ x ∷ y ∷ []) (search pol depth 20 fits 9000) tt

  pub area-to-is-sum : area_to r k ≡ sum_to (velocity_in r) k
  unfolding area_to
  area-to-is-sum =
      sym
      (ap (sum_to f) (sym (parts_all r.rise k (last_level r)))
      ∙ parts f (rising_to r k + level_to r k) (falling_to r k)
      ∙ ap₂ (λ (x y : ℤ). x +ℤ y) (parts f (rising_to r k) (level_to r k)
      ∙ ap₂ (λ (x y : ℤ). x +ℤ y) first second) third)
