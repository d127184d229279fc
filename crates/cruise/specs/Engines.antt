-- The engine by areas (docs/METHOD.md, 3.9): reach, cruise and remainder from the areas
-- under the velocities, with no tick visited. That both engines give one answer is the theorem
-- `engines-agree`.
use Rattle.std.specs.Prelude.{ℕ, zero, suc, ◌^◌, ◌≡◌, Bool, true, false, ◌&&◌, ℤ, pos, neg_ℤ, nat_abs, ◌+ℤ◌, ◌-ℤ◌}
use Rattle.std.specs.Int.Signed.{le_z}
use Rattle.model.specs.planning.Leg.{Leg, required, sum_is_whole, climb_steps, feasible, cruise, remainder}
use Rattle.profile.specs.Profiles.{ends_allowed}
use Rattle.areas.specs.Areas.{area_at, lowest_area, highest_area}

-- ---- rule 4: the required sum is between the areas under the two envelopes

abbrev pub feasible_by_areas : Leg → ℤ → Bool
feasible_by_areas g d =
    ends_allowed g && (sum_is_whole g d
    && (le_z (lowest_area g) (required g d) && le_z (required g d) (highest_area g)))

-- ---- rule 5: the cruise and the remainder, for the required sum s

abbrev pub climb_by_areas : Leg → ℤ → ℕ → ℤ → ℤ
climb_by_areas g s zero c = c
climb_by_areas g s (suc n) c =
    let d : ℤ = c +ℤ pos (2 ^ n) in
    elim (le_z d (pos g.speed_limit)) [
      | true ↦ elim (le_z (area_at g d) s) [ true ↦ climb_by_areas g s n d | false ↦ climb_by_areas g s n c ]
      | false ↦ climb_by_areas g s n c
    ]

unfoldable pub cruise_by_areas : Leg → ℤ → ℤ
cruise_by_areas g s = climb_by_areas g s climb_steps (neg_ℤ (pos g.speed_limit))

abbrev pub remainder_by_areas : Leg → ℤ → ℕ
remainder_by_areas g s = nat_abs (s -ℤ area_at g (cruise_by_areas g s))

-- ---- both engines give one answer: for a leg and a displacement d; and, where the ends can be
-- joined, for every required sum s
pub record EnginesAgree (g : Leg) : Type 0 where
  pub reach : (d : ℤ) → feasible_by_areas g d ≡ feasible g d
  pub cruises : ends_allowed g ≡ true → (s : ℤ) → cruise_by_areas g s ≡ cruise g s
  pub remainders : ends_allowed g ≡ true → (s : ℤ) → remainder_by_areas g s ≡ remainder g s
