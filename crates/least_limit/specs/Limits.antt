-- What a task asks of its two limits, and what the functions of this crate give back.
use Rattle.std.specs.Prelude.{ℕ, ◌+◌, ◌-◌, ◌*◌, ◌^◌, ◌≤◌, ◌<◌, ◌≡◌, Bool, true, false, ◌&&◌, leb, nat_abs, ◌-ℤ◌}
use Rattle.std.specs.Int.Signed.{le_z}
use Rattle.whole.specs.Integers.{sum_to}
use Rattle.whole.specs.Ranges.{Within}
use Rattle.model.specs.declared.Limit.{Limit}
use Rattle.model.specs.declared.Limit.TheVariants.{Acceleration, Speed}
use Rattle.model.specs.planning.Leg.{Leg, upper}
use Rattle.model.specs.calls.Raises.{highest}
use Rattle.areas.specs.declared.Parts.{Parts}
use Rattle.profile.specs.Profiles.{Joinable}
use Rattle.areas.specs.Areas.{triangle}
use Rattle.least_limit.specs.declared.Task.{Task}

-- ---- a task with other limits

-- with the limits l and m, in units
abbrev pub profile_at : Task → ℕ → ℕ → Leg
profile_at t l m =
    record {
      speed_limit = t.steps * l;
      acceleration_limit = t.steps * m;
      start = t.start;
      end = t.end;
      ticks = t.ticks;
    }

-- with one limit set, the other being as it is
abbrev pub speed_with : Limit → Task → ℕ → ℕ
speed_with Acceleration t v = t.speed
speed_with Speed t v = v

abbrev pub acceleration_with : Limit → Task → ℕ → ℕ
acceleration_with Acceleration t v = v
acceleration_with Speed t v = t.acceleration

abbrev pub limit_in : Limit → Task → ℕ
limit_in Acceleration t = t.acceleration
limit_in Speed t = t.speed

abbrev pub other : Limit → Limit
other Acceleration = Speed
other Speed = Acceleration

-- ---- whether the limits are enough

-- what the ends ask of a limit: a unit of it times the limit makes what is needed
abbrev pub need : Limit → Task → ℕ
need Acceleration t = nat_abs (t.end -ℤ t.start)
need Speed t = t.fastest

abbrev pub unit : Limit → Task → ℕ
unit Acceleration t = t.steps * t.ticks
unit Speed t = t.steps

-- both limits allow the ends, and the upper envelope's sum comes up to the required one
unfoldable pub enough : Task → ℕ → ℕ → Bool
enough t l m =
    leb (need Speed t) (unit Speed t * l)
    && (leb (need Acceleration t) (unit Acceleration t * m)
    && le_z t.sum (sum_to (upper (profile_at t l m)) (t.ticks - 1)))

abbrev pub enough_with : Limit → Task → ℕ → Bool
enough_with q t v = enough t (speed_with q t v) (acceleration_with q t v)

-- ---- ranges, in which the code does not overflow

pub record TaskRanged (t : Task) : Type 0 where
  pub start : nat_abs t.start ≤ t.fastest
  pub end : nat_abs t.end ≤ t.fastest
  pub fastest : t.fastest ≤ 2 ^ 48
  pub some : 0 < t.ticks
  pub ticks : t.ticks ≤ 4096
  pub sum : Within (2 ^ 61) t.sum
  pub one : 0 < t.steps
  pub steps : t.steps ≤ 65536
  pub speed : t.speed ≤ 1048576
  pub stronger : 0 < t.acceleration
  pub acceleration : t.acceleration ≤ 65536

-- the value v of a limit is in its range, and with it the limits allow the ends
pub record Allowed (q : Limit) (t : Task) (v : ℕ) : Type 0 where
  pub low : 0 < v
  pub high : v ≤ highest q
  pub speed : need Speed t ≤ unit Speed t * speed_with q t v
  pub near : need Acceleration t ≤ unit Acceleration t * acceleration_with q t v

pub record PartsRanged (p : Parts) : Type 0 where
  pub rising : p.rising ≤ 4096
  pub level : p.level ≤ 4096
  pub falling : p.falling ≤ 4096

-- ---- results

-- the profile with one limit set, whose ends can be joined
pub record ProfileFor (q : Limit) (t : Task) (v : ℕ) (r : Leg) : Type 0 where
  pub is : r ≡ profile_at t (speed_with q t v) (acceleration_with q t v)
  pub joinable : Joinable r

-- r is the least value above the limit as it is that allows the ends, or `after`
pub record FirstAllowed (q : Limit) (t : Task) (after r : ℕ) : Type 0 where
  pub low : limit_in q t < r
  pub high : r ≤ after
  pub enough : r < after → need q t ≤ unit q t * r
  pub short : (k : ℕ) → limit_in q t < k → k < r → unit q t * k < need q t

-- how much of a grid step's raise of a limit an area of three parts gains
abbrev pub gain_of : Limit → Parts → ℕ
gain_of Acceleration p = triangle p.rising + triangle p.falling
gain_of Speed p = p.level

-- with a gain of so much for each, no value below r makes up for what is missing at v
pub record Led (v missing gain after r : ℕ) : Type 0 where
  pub higher : v < r
  pub most : r ≤ after
  pub short : (k : ℕ) → k < r → k * gain < v * gain + missing

-- r is v where v passes the test, and else a higher one below which none passes
pub record Leads (test : ℕ → Bool) (v after r : ℕ) : Type 0 where
  pub low : v ≤ r
  pub high : r ≤ after
  pub here : r ≡ v → test v ≡ true
  pub short : v < r → (k : ℕ) → k < r → test k ≡ false
