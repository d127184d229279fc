-- The area under the velocities at a cruise is their sum over ticks 1 to T − 1: it is the area of
-- the first T − 1 ticks, of which none is raised.
use Prim.Native.Nat.{ℕ, ◌+◌, ◌-◌, ◌≤◌, ◌<◌, min}
use mathlib.Core.Path.{◌≡◌, refl, sym, ap, ◌∙◌}
use mathlib.Core.List.{[], ◌∷◌}
use mathlib.Core.Logic.{◌⊎◌, inl, inr}
use native.Mathlib.Omega.{arith}
use lib.IntN.{ℤ, pos, ◌+ℤ◌, ◌*ℤ◌}
use lib.Signed.{≤ℤ_refl}
use Rattle.whole.specs.Ranges.{Within}
use Rattle.whole.proofs.Laws.{≤ℤ-next}
use Rattle.whole.proofs.Ring.{pol, same}
use Rattle.whole.proofs.Sums.{sum_same}
use Rattle.whole.proofs.Tests.{lt-or-le}
use Rattle.model.specs.planning.Leg.{Leg, clamped, sum_at}
use Rattle.theorems.proofs.legs.Envelopes.{Joined}
use Rattle.regions.specs.declared.Regions.{Regions}
use Rattle.regions.specs.Regions.{regions_of, velocity_in}
use Rattle.areas.specs.Areas.{ramp_area, area_of, area_at, area_to, fall_area, rising_ticks, level_ticks, level_to}
use Rattle.areas.specs.Areas.{falling_to}
use Rattle.regions.proofs.ThreeRegions.{on-start, on-end, on-level}
use Rattle.regions.proofs.ChosenRegions.{in_start, in_end, in-level}
use Rattle.areas.proofs.PartSums.{area-to-is-sum}

-- ---- the parts of all ticks are those of the first T − 1: the first ramp up to tick a, t ticks, f
-- of them on the ramp to the end

module _ (a t f : ℕ) where
  level_all : min t (t - f) - a ≡ t - min a t - min f (t - min a t)
  level_all = ap (λ (s : ℕ). s - a) {x = min t (t - f)} {y = t - f} (omega arith) ∙ go (lt-or-le t a)
    where
      short : t < a → t - f - a ≡ t - t - min f (t - t)
      short h = omega arith

      long : a ≤ t → t - f - a ≡ t - a - min f (t - a)
      long h = omega arith

      go : (t < a) ⊎ (a ≤ t) → t - f - a ≡ t - min a t - min f (t - min a t)
      go (inl h) = let e : t ≡ min a t = omega arith in short h ∙ ap (λ (m : ℕ). t - m - min f (t - m)) e
      go (inr h) = let e : a ≡ min a t = omega arith in long h ∙ ap (λ (m : ℕ). t - m - min f (t - m)) e

  falling-all : t - min a t - (min t (t - f) - a) ≡ min f (t - min a t)
  falling-all = ap (λ (l : ℕ). t - min a t - l) level_all ∙ left (t - min a t)
    where
      left : (x : ℕ) → x - (x - min f x) ≡ min f x
      left x = omega arith

area-all : (r : Regions) → r.raised ≡ 0 → area_to r (r.ticks - 1) ≡ area_of r
unfolding area_of area_to fall_area
area-all r e =
    ap (λ (m : ℕ). ramp +ℤ (pos level *ℤ r.cruise +ℤ pos m)
    +ℤ ramp_area (r.end +ℤ pos (t - t) *ℤ r.down) r.down falling)
    {x = min r.raised level} {y = 0} (omega arith)
    ∙ ap (λ (m : ℕ). ramp +ℤ (pos level *ℤ r.cruise +ℤ pos 0)
    +ℤ ramp_area (r.end +ℤ pos m *ℤ r.down) r.down falling) {x = t - t} {y = 0} (omega arith)
    ∙ ap (λ (z : ℤ). ramp +ℤ (pos level *ℤ r.cruise +ℤ pos 0) +ℤ ramp_area z r.down falling)
    (at-end r.end r.down)
    ∙ none ramp (pos level *ℤ r.cruise) (ramp_area r.end r.down falling)
    ∙ ap (λ (m : ℕ). ramp +ℤ pos m *ℤ r.cruise +ℤ ramp_area r.end r.down falling)
    (level_all r.rise t r.fall)
    ∙ ap (λ (m : ℕ). ramp +ℤ pos (level_ticks r) *ℤ r.cruise +ℤ ramp_area r.end r.down m)
    (falling-all r.rise t r.fall)
  where
    t : ℕ
    t = r.ticks - 1

    ramp : ℤ
    ramp = ramp_area r.start r.up (rising_ticks r)

    level : ℕ
    level = level_to r t

    falling : ℕ
    falling = falling_to r t

    at-end : (e d : ℤ) → e +ℤ pos 0 *ℤ d ≡ e
    at-end e d = same (e ∷ d ∷ []) (search pol depth 20 fits 9000) tt

    none : (x y z : ℤ) → x +ℤ (y +ℤ pos 0) +ℤ z ≡ x +ℤ y +ℤ z
    none x y z = same (x ∷ y ∷ z ∷ []) (search pol depth 20 fits 9000) tt

-- ---- a cruise

module _ (g : Leg) (joined : Joined g) (some : 0 < g.acceleration_limit) (c : ℤ)
    (inside : Within g.speed_limit c) where
  abbrev R : Regions
  R = regions_of g c 0

  -- the velocity of a tick, by its region
  velocity-is : (k : ℕ) → k ≤ g.ticks → velocity_in R k ≡ clamped g c k
  velocity-is k h = go (lt-or-le R.rise k) (lt-or-le (k + R.fall) g.ticks)
    where
      go : (R.rise < k) ⊎ (k ≤ R.rise) → (k + R.fall < g.ticks) ⊎ (g.ticks ≤ k + R.fall)
          → velocity_in R k ≡ clamped g c k
      go (inr p) q = in_start R k p ∙ sym (on-start g joined some c inside k h c (≤ℤ_refl c) (≤ℤ-next c) p)
      go (inl p) (inl q) = in-level R k p q (omega arith) ∙ sym (on-level g joined some c inside k h p q)
      go (inl p) (inr q) = in_end R k p q ∙ sym (on-end g joined some c inside k h c (≤ℤ_refl c) (≤ℤ-next c) p q)

  pub area-is-sum : area_at g c ≡ sum_at g c
  area-is-sum =
      sym (area-all R refl)
      ∙ area-to-is-sum R (g.ticks - 1) (omega arith)
      ∙ sum_same (velocity_in R) (clamped g c) (g.ticks - 1) (λ k h. velocity-is k (omega arith))
