-- The tests of `feasible`: taken apart, put together, and what they give before any list is looked
-- at.
use Prim.Native.Nat.{◌-◌, ◌*◌, ◌%◌, ◌^◌, ◌≤◌}
use mathlib.Core.Path.{◌≡◌}
use mathlib.Core.Bool.{Bool}
use mathlib.Core.List.{List, [], ◌∷◌}
use lib.Dec.{T, leb→le, eqb→eq}
use lib.IntN.{ℤ, nat_abs, ◌-ℤ◌}
use lib.Signed.{◌≤ℤ◌, le_z_yes}
use Rattle.whole.specs.Integers.{sum_to}
use Rattle.whole.proofs.Tests.{both, and}
use Rattle.model.specs.planning.Leg.{Leg, upper, lower, cruise, IsCruise, required, twice_required, all_hold, tests}
use Rattle.model.specs.planning.Leg.{feasible}
use Rattle.theorems.proofs.legs.Envelopes.{Joined}
use Rattle.theorems.proofs.legs.CruiseIsLargest.{cruise-is}

abbrev pub Each : List Bool → Type 0
Each [] = Unit {0}
Each (b ∷ bs) = T b × Each bs

pub every : (bs : List Bool) → Each bs → T (all_hold bs)
every [] e = tt
every (b ∷ bs) e = and b (all_hold bs) e.0 (every bs e.1)

pub each : (bs : List Bool) → T (all_hold bs) → Each bs
each [] t = tt
each (b ∷ bs) t = let p : T b × T (all_hold bs) = both b (all_hold bs) t in (p.0, each bs p.1)

module _ (g : Leg) (δ : ℤ) (t : T (feasible g δ)) where
  passed : Each (tests g δ)
  passed = each (tests g δ) t

  pub feasible-joined : Joined g
  feasible-joined =
      record {
        start = leb→le (nat_abs g.start) g.speed_limit passed.0;
        end = leb→le (nat_abs g.end) g.speed_limit passed.1.0;
        apart = leb→le (nat_abs (g.end -ℤ g.start)) (g.acceleration_limit * g.ticks) passed.1.1.0;
      }

  pub feasible-even : nat_abs (twice_required g δ) % 2 ≡ 0
  feasible-even = eqb→eq (nat_abs (twice_required g δ) % 2) 0 passed.1.1.1.0

  -- the required sum does not exceed the upper envelope's
  pub feasible-below : required g δ ≤ℤ sum_to (upper g) (g.ticks - 1)
  feasible-below = le_z_yes passed.1.1.1.1.1.0

  -- nor is it below the lower envelope's
  pub feasible-above : sum_to (lower g) (g.ticks - 1) ≤ℤ required g δ
  feasible-above = le_z_yes passed.1.1.1.1.0

  -- and it has a cruise
  pub feasible-cruise : g.speed_limit ≤ 2 ^ 37 → IsCruise g (required g δ) (cruise g (required g δ))
  feasible-cruise small = cruise-is g (required g δ) small feasible-above
