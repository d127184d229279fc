-- Rule 4 of an axis: the decision `reachable` is true exactly where a list exists (`reachable-is`),
-- and what it gives of its parts.
use Prim.Native.Nat.{ℕ, ◌≤◌, ◌<◌}
use mathlib.Core.Bool.{Bool, ◌&&◌}
use mathlib.Core.Logic.{◌↔◌}
use native.Mathlib.Omega.{arith}
use lib.Dec.{T, ltb, leb, lt→ltb, leb→le, le→leb}
use lib.IntN.{nat_abs}
use Rattle.model.specs.declared.Axis.{Axis}
use Rattle.model.specs.planning.Quantities.{speed_limit, acceleration_limit, delay, speed_steps}
use Rattle.model.specs.planning.Leg.{feasible, Feasible}
use Rattle.model.specs.planning.Motion.{Reachable, reachable, leg, displacement, landing_velocity, arrival_velocity}
use Rattle.whole.proofs.Tests.{both, and}
use Rattle.theorems.proofs.legs.FeasibleIsExistence.{feasible-is}
use Rattle.theorems.proofs.motions.Grid.{speed-range, acceleration-some}

-- two laws by which `simp` takes the decision apart, whatever its parts are
and-iff : (b c : Bool) → T (b && c) ↔ (T b × T c)
and-iff b c = (both b c, λ p. and b c p.0 p.1)

leb-iff : (m n : ℕ) → T (leb m n) ↔ (m ≤ n)
leb-iff m n = (leb→le m n, le→leb m n)

module _ (x : Axis) (n : ℕ) where
  abbrev late : Bool
  late = ltb (delay x) n

  abbrev lands : Bool
  lands = leb (nat_abs (landing_velocity x n)) (speed_steps x)

  abbrev arrives : Bool
  arrives = leb (nat_abs (arrival_velocity x n)) (speed_steps x)

  abbrev moves : Bool
  moves = feasible (leg x n) (displacement x n)

  pub reach-after : T (reachable x n) → delay x < n
  reach-after = simp (and-iff, leb-iff) (omega arith)

  pub reach-lands : T (reachable x n) → nat_abs (landing_velocity x n) ≤ speed_steps x
  reach-lands = simp (and-iff, leb-iff) (omega arith)

  pub reach-arrives : T (reachable x n) → nat_abs (arrival_velocity x n) ≤ speed_steps x
  reach-arrives = simp (and-iff, leb-iff) (omega arith)

  pub reach-feasible : T (reachable x n) → T (feasible (leg x n) (displacement x n))
  reach-feasible t =
      (both arrives moves (both lands (arrives && moves) (both late (lands && (arrives && moves)) t).1).1).1

  decides : 0 < acceleration_limit x → speed_limit x ≤ 1048576 → delay x < n
      → Feasible (leg x n) (displacement x n) ↔ T moves
  decides hA hL h = feasible-is (leg x n) (displacement x n) (omega arith) (acceleration-some x hA) (speed-range x hL)

  pub reachable-is : 0 < acceleration_limit x → speed_limit x ≤ 1048576 → Reachable x n ↔ T (reachable x n)
  reachable-is hA hL = (
    λ r.
        and late (lands && (arrives && moves)) (lt→ltb (delay x) n r.after)
        (and lands (arrives && moves) (le→leb (nat_abs (landing_velocity x n)) (speed_steps x) r.landed)
        (and arrives moves (le→leb (nat_abs (arrival_velocity x n)) (speed_steps x) r.arrived)
        ((decides hA hL r.after).0 r.moves))),
    λ t.
        record {
          after = reach-after t;
          landed = reach-lands t;
          arrived = reach-arrives t;
          moves = (decides hA hL (reach-after t)).1 (reach-feasible t);
        },
  )
