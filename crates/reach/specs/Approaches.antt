-- An axis whose target accelerates, from a first arrival on (docs/METHOD.md, 3.10): its legs to all
-- arrivals by the one to the first.
use Rattle.std.specs.Prelude.{ℕ, ◌+◌, ◌-◌, ◌^◌, ◌≤◌, ◌<◌, ◌≡◌, Bool, true, ◌&&◌, leb, ℤ, pos, nat_abs, ◌+ℤ◌, ◌*ℤ◌}
use Rattle.whole.specs.Ranges.{Within}
use Rattle.model.specs.declared.Axis.{Axis}
use Rattle.model.specs.planning.Leg.{Leg, sum_is_whole, feasible}
use Rattle.model.specs.planning.Motion.{reachable}
use Rattle.model.specs.planning.Refusals.{last_tick}
use Rattle.reach.specs.declared.approach.Approach.{Approach}

-- ---- i arrivals later than the first

-- the velocity at the landing, and at the arrival
abbrev pub end_later : Approach → ℕ → ℤ
end_later a i = a.end +ℤ pos i *ℤ a.change

abbrev pub arrived_later : Approach → ℕ → ℤ
arrived_later a i = end_later a i +ℤ pos a.delay *ℤ a.change

-- the displacement
abbrev pub travel_later : Approach → ℕ → ℤ
travel_later a i = a.travel +ℤ pos i *ℤ (pos 2 *ℤ a.end +ℤ pos i *ℤ a.change)

-- the leg
abbrev pub profile_later : Approach → ℕ → Leg
profile_later a i =
    record {
      speed_limit = a.speed_limit;
      acceleration_limit = a.acceleration_limit;
      start = a.start;
      end = end_later a i;
      ticks = a.ticks + i;
    }

-- whether it is reached: rule 4 after its first test
unfoldable pub reaches_later : Approach → ℕ → Bool
reaches_later a i =
    leb (nat_abs (end_later a i)) a.speed_limit
    && (leb (nat_abs (arrived_later a i)) a.speed_limit && feasible (profile_later a i) (travel_later a i))

-- ---- what the code needs of an approach

pub record ApproachRanged (a : Approach) : Type 0 where
  pub speed_limit : a.speed_limit ≤ 2 ^ 37
  pub acceleration_limit : a.acceleration_limit ≤ 2 ^ 33
  pub start : Within (2 ^ 37) a.start
  pub end : Within (2 ^ 47) a.end
  pub change : Within (2 ^ 32) a.change
  pub travel : Within (2 ^ 60) a.travel
  pub ticks : a.ticks ≤ 4096
  pub delay : a.delay ≤ 512
  pub acceleration : 0 < a.acceleration_limit
  pub some : 0 < a.ticks
  pub slow : nat_abs a.start ≤ a.speed_limit

-- and of its arrivals to the last
pub record Approaches (a : Approach) (last : ℕ) : Type 0 where
  pub ranged : ApproachRanged a
  pub few : a.ticks + last ≤ 4096
  pub whole : (i : ℕ) → i ≤ last → sum_is_whole (profile_later a i) (travel_later a i) ≡ true
  -- what is reached is reached later, where the target is slow enough by then
  pub goes : (i j : ℕ) → i ≤ j → j ≤ last → nat_abs (arrived_later a j) ≤ a.speed_limit
      → reaches_later a i ≡ true → reaches_later a j ≡ true
  -- what is reached is one run
  pub run : (i j k : ℕ) → i ≤ j → j ≤ k → k ≤ last → reaches_later a i ≡ true
      → reaches_later a k ≡ true → reaches_later a j ≡ true

-- the approach of an axis from arrival n on
pub record ApproachIs (x : Axis) (n : ℕ) (a : Approach) : Type 0 where
  pub approaches : Approaches a (last_tick - n)
  pub same : (i : ℕ) → reaches_later a i ≡ reachable x (n + i)
