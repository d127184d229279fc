-- The area at a cruise is the sum of the velocities there, and so are the areas under both
-- envelopes.
use Prim.Native.Nat.{ℕ, ◌-◌, ◌<◌}
use mathlib.Core.Path.{◌≡◌, ◌∙◌}
use mathlib.Core.Bool.{true}
use native.Mathlib.Omega.{arith}
use lib.IntN.{ℤ, pos, neg_ℤ}
use Rattle.whole.specs.Integers.{sum_to}
use Rattle.whole.specs.Ranges.{Within}
use Rattle.whole.proofs.Laws.{nat_abs-negpos}
use Rattle.model.specs.planning.Leg.{Leg, upper, lower, sum_at}
use Rattle.theorems.proofs.legs.Envelopes.{lowest-sum, highest-sum}
use Rattle.profile.specs.Profiles.{ends_allowed}
use Rattle.areas.specs.Areas.{area_at, lowest_area, highest_area}
use Rattle.profile.proofs.FeasibleParts.{ends-joined}
use Rattle.areas.proofs.AreaIsSum.{area-is-sum}

module _ (g : Leg) (some : 0 < g.acceleration_limit) (ends : ends_allowed g ≡ true) where
  abbrev L : ℕ
  L = g.speed_limit

  pub area-at : (c : ℤ) → Within L c → area_at g c ≡ sum_at g c
  area-at = area-is-sum g (ends-joined g ends) some

  pub lowest-inside : Within L (neg_ℤ (pos L))
  lowest-inside = record { within = omega (arith, nat_abs-negpos L) }

  -- the areas under the envelopes are their sums
  pub lowest-area : lowest_area g ≡ sum_to (lower g) (g.ticks - 1)
  lowest-area = area-at (neg_ℤ (pos L)) lowest-inside ∙ lowest-sum g

  pub highest-area : highest_area g ≡ sum_to (upper g) (g.ticks - 1)
  highest-area = area-at (pos L) (record { within = omega arith }) ∙ highest-sum g (ends-joined g ends)
