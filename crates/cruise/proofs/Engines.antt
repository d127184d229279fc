-- The engine by ticks and the engine by areas give one answer for every leg with an acceleration
-- limit: reach, cruise and remainder.
use Prim.Native.Nat.{ℕ, zero, suc, ◌^◌, ◌<◌}
use mathlib.Core.Path.{◌≡◌, refl, sym, ap, ap₂, ◌∙◌}
use mathlib.Core.Bool.{Bool, true, false, ◌&&◌}
use lib.IntN.{ℤ, pos, neg_ℤ, nat_abs, ◌+ℤ◌, ◌-ℤ◌}
use lib.Signed.{le_z, le_z_yes}
use Rattle.whole.specs.Ranges.{Within}
use Rattle.whole.proofs.Tests.{by_bool, true-T}
use Rattle.model.specs.planning.Leg.{Leg, sum_at, fits_at, required, sum_is_whole, climb_by_bits, climb_steps, cruise}
use Rattle.model.specs.planning.Leg.{feasible}
use Rattle.profile.specs.Profiles.{ends_allowed}
use Rattle.areas.specs.Areas.{area_at}
use Rattle.cruise.specs.Engines.{feasible_by_areas, climb_by_areas, cruise_by_areas, EnginesAgree}
use Rattle.profile.proofs.FeasibleParts.{feasible-parts}
use Rattle.cruise.proofs.ClimbSteps.{step-inside}
use Rattle.areas.proofs.EnvelopeAreas.{area-at, lowest-inside, lowest-area, highest-area}

-- two tests of which the second agrees where the first passes
after : (a : Bool) {b c : Bool} → (a ≡ true → b ≡ c) → (a && b) ≡ (a && c)
after true e = e refl
after false e = refl

-- a step of the climb, by its two tests
stepped : (a : Bool) {b c : Bool} {x y z w : ℤ} → (a ≡ true → b ≡ c) → (a ≡ true → x ≡ y) → z ≡ w
    → ◌≡◌ {A = ℤ} (elim a [ true ↦ elim b [ true ↦ x | false ↦ z ] | false ↦ z ])
    (elim a [ true ↦ elim c [ true ↦ y | false ↦ w ] | false ↦ w ])
stepped true e f g = λ i. elim (e refl i) as (λ _. ℤ) [ true ↦ f refl i | false ↦ g i ]
stepped false e f g = g

module _ (g : Leg) (some : 0 < g.acceleration_limit) where
  abbrev L : ℕ
  L = g.speed_limit

  module _ (ends : ends_allowed g ≡ true) where
    here : (c : ℤ) → Within L c → area_at g c ≡ sum_at g c
    here = area-at g some ends

    lowest : Within L (neg_ℤ (pos L))
    lowest = lowest-inside g some ends

    module _ (s : ℤ) where
      higher : (n : ℕ) (c : ℤ) → Within L c → le_z (c +ℤ pos (2 ^ n)) (pos L) ≡ true → Within L (c +ℤ pos (2 ^ n))
      higher n c w e = step-inside (2 ^ n) L c w (le_z_yes (true-T e))

      same-climb : (n : ℕ) (c : ℤ) → Within L c → climb_by_areas g s n c ≡ climb_by_bits g s n c
      same-climb zero c w = refl
      same-climb (suc n) c w =
          stepped (le_z (c +ℤ pos (2 ^ n)) (pos L))
          (λ e. ap (λ (z : ℤ). le_z z s) (here (c +ℤ pos (2 ^ n)) (higher n c w e)))
          (λ e. same-climb n (c +ℤ pos (2 ^ n)) (higher n c w e)) (same-climb n c w)

      climb-keeps : (n : ℕ) (c : ℤ) → Within L c → Within L (climb_by_bits g s n c)
      climb-keeps zero c w = w
      climb-keeps (suc n) c w =
          by_bool (Within L) (le_z (c +ℤ pos (2 ^ n)) (pos L)) _ _
          (λ t.
          by_bool (Within L) (fits_at g s (c +ℤ pos (2 ^ n))) _ _
          (λ u. climb-keeps n (c +ℤ pos (2 ^ n)) (step-inside (2 ^ n) L c w (le_z_yes t))) (λ u. climb-keeps n c w))
          (λ t. climb-keeps n c w)

      same-cruise : cruise_by_areas g s ≡ cruise g s
      unfolding cruise_by_areas cruise
      same-cruise = same-climb climb_steps (neg_ℤ (pos L)) lowest

      cruise-keeps : Within L (cruise g s)
      unfolding cruise
      cruise-keeps = climb-keeps climb_steps (neg_ℤ (pos L)) lowest

      same-remainder : nat_abs (s -ℤ area_at g (cruise_by_areas g s)) ≡ nat_abs (s -ℤ sum_at g (cruise g s))
      same-remainder = ap (λ (z : ℤ). nat_abs (s -ℤ z)) (ap (area_at g) same-cruise ∙ here (cruise g s) cruise-keeps)

  same-reach : (d : ℤ) → feasible_by_areas g d ≡ feasible g d
  same-reach d =
      after (ends_allowed g)
      (λ e.
      ap₂ (λ (x y : ℤ). sum_is_whole g d && (le_z x (required g d) && le_z (required g d) y))
      (lowest-area g some e) (highest-area g some e))
      ∙ sym (feasible-parts g d)

  pub engines-agree : EnginesAgree g
  engines-agree = record { reach = same-reach; cruises = same-cruise; remainders = same-remainder }
