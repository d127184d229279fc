-- The leg of `model` that a profile stands for, the ranges in which its code does not overflow, and
-- rule 4 in parts.
use Rattle.std.specs.Prelude.{◌-◌, ◌*◌, ◌^◌, ◌≤◌, ◌<◌, ◌≡◌, Bool, true, ◌&&◌, ℤ, nat_abs, ◌-ℤ◌, leb}
use Rattle.std.specs.Int.Signed.{le_z}
use Rattle.whole.specs.Ranges.{Within}
use Rattle.whole.specs.Integers.{sum_to}
use Rattle.model.specs.planning.Leg.{Leg, upper, lower}
use Rattle.profile.specs.declared.Profile.TheInside.{Inside}

-- the velocities, in the model's terms
abbrev pub leg_of : Inside → Leg
leg_of p =
    record {
      ticks = p.ticks;
      start = p.start;
      end = p.end;
      speed_limit = p.speed_limit;
      acceleration_limit = p.acceleration_limit;
    }

-- where the code does not overflow, as every profile is; the ends may exceed the speed limit
pub record Ranged (p : Leg) : Type 0 where
  pub speed_limit : p.speed_limit ≤ 2 ^ 37
  pub acceleration_limit : p.acceleration_limit ≤ 2 ^ 33
  pub ticks : p.ticks ≤ 4096
  pub start : Within (2 ^ 37) p.start
  pub end : Within (2 ^ 37) p.end

-- ---- rule 4: `feasible` in parts

-- the ends are within the speed limit and near enough to one another
abbrev pub ends_allowed : Leg → Bool
ends_allowed g =
    leb (nat_abs g.start) g.speed_limit
    && (leb (nat_abs g.end) g.speed_limit && leb (nat_abs (g.end -ℤ g.start)) (g.acceleration_limit * g.ticks))

-- a leg whose ends can be joined
pub record Joinable (p : Leg) : Type 0 where
  pub acceleration : 0 < p.acceleration_limit
  pub some : 0 < p.ticks
  pub ends : ends_allowed p ≡ true

-- the sum s is between the sums of the two envelopes
abbrev pub sum_between : Leg → ℤ → Bool
sum_between g s = le_z (sum_to (lower g) (g.ticks - 1)) s && le_z s (sum_to (upper g) (g.ticks - 1))
