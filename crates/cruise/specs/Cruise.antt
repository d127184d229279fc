-- Rule 5's cruise: a step of the climb to it, and what `cruise_by` gives.
use Rattle.std.specs.Prelude.{ℕ, ◌^◌, ◌≡◌, true, false, ◌&&◌, ℤ, pos, ◌+ℤ◌}
use Rattle.std.specs.Int.Signed.{le_z}
use Rattle.whole.specs.Ranges.{Is}
use Rattle.model.specs.planning.Leg.{Leg, fits_at, cruise, remainder}
use Rattle.regions.specs.declared.CruisePlan.{CruisePlan}

-- one step of `climb_by_bits`: c + step where that keeps to the speed limit and
-- fits the required sum s, else c
abbrev pub climb_step : Leg → ℤ → ℤ → ℕ → ℤ
climb_step g s c step =
    let d : ℤ = c +ℤ pos step in
    elim (le_z d (pos g.speed_limit) && fits_at g s d) [ true ↦ d | false ↦ c ]

-- what `cruise` gives, for the required sum s
pub record CruiseIs (g : Leg) (s : ℤ) (r : CruisePlan) : Type 0 where
  pub velocity : Is (2 ^ 37) r.velocity (cruise g s)
  pub raised : r.raised ≡ remainder g s
