-- Sums of velocities as areas (docs/METHOD.md, 3.9), with no tick visited: an area is a
-- ramp, a level part and a ramp, each of which may be missing. That the area at a cruise is the sum
-- of the velocities is the theorem `area-is-sum`.
use Rattle.std.specs.Prelude.{ℕ, ◌+◌, ◌-◌, ◌*◌, ◌/◌, ◌^◌, min, ◌≡◌, ℤ, pos, neg_ℤ, ◌+ℤ◌, ◌*ℤ◌}
use Rattle.whole.specs.Integers.{sum_to}
use Rattle.whole.specs.Ranges.{Is}
use Rattle.model.specs.planning.Leg.{Leg, upper}
use Rattle.areas.specs.declared.Parts.{Parts}
use Rattle.regions.specs.declared.Regions.{Regions}
use Rattle.areas.specs.declared.UpperArea.{UpperArea}
use Rattle.regions.specs.Regions.{regions_of}

-- 1 + 2 + .. + n
unfoldable pub triangle : ℕ → ℕ
triangle n = n * (n + 1) / 2

-- n ticks of a ramp from velocity v, the change being u a tick: (v + u) + (v + 2u) + .. + (v + nu)
unfoldable pub ramp_area : ℤ → ℤ → ℕ → ℤ
ramp_area v u n = pos n *ℤ v +ℤ pos (triangle n) *ℤ u

-- how many of ticks 1 to T − 1 are on the first ramp, on the other one, and level; where
-- the ramps meet, no tick is level
abbrev pub rising_ticks : Regions → ℕ
rising_ticks r = min r.rise (r.ticks - 1)

abbrev pub falling_ticks : Regions → ℕ
falling_ticks r = min r.fall (r.ticks - 1 - rising_ticks r)

abbrev pub level_ticks : Regions → ℕ
level_ticks r = r.ticks - 1 - rising_ticks r - falling_ticks r

abbrev pub parts_of : Regions → Parts
parts_of r = record { rising = rising_ticks r; level = level_ticks r; falling = falling_ticks r }

-- the area under the velocities of ticks 1 to T − 1, before any is raised
unfoldable pub area_of : Regions → ℤ
area_of r = ramp_area r.start r.up (rising_ticks r) +ℤ pos (level_ticks r) *ℤ r.cruise
    +ℤ ramp_area r.end r.down (falling_ticks r)

-- ---- the first k of these ticks

-- the last tick before the ramp to the end
abbrev pub last_level : Regions → ℕ
last_level r = r.ticks - 1 - r.fall

abbrev pub rising_to : Regions → ℕ → ℕ
rising_to r k = min r.rise k

abbrev pub level_to : Regions → ℕ → ℕ
level_to r k = min k (last_level r) - r.rise

abbrev pub falling_to : Regions → ℕ → ℕ
falling_to r k = k - rising_to r k - level_to r k

abbrev pub parts_to : Regions → ℕ → Parts
parts_to r k = record { rising = rising_to r k; level = level_to r k; falling = falling_to r k }

-- n ticks of the ramp to the end, of which tick k is the last
unfoldable pub fall_area : Regions → ℕ → ℕ → ℤ
fall_area r k n = ramp_area (r.end +ℤ pos (r.ticks - 1 - k) *ℤ r.down) r.down n

-- the area under the velocities of ticks 1 to k, k below T, the first level ones raised
unfoldable pub area_to : Regions → ℕ → ℤ
area_to r k =
    ramp_area r.start r.up (rising_to r k)
    +ℤ (pos (level_to r k) *ℤ r.cruise +ℤ pos (min r.raised (level_to r k)))
    +ℤ fall_area r k (falling_to r k)

-- at cruise c
abbrev pub area_at : Leg → ℤ → ℤ
area_at g c = area_of (regions_of g c 0)

-- ---- the upper envelope

-- its parts, the velocities being those at the highest cruise
abbrev pub upper_parts : Leg → Parts
upper_parts g = parts_of (regions_of g (pos g.speed_limit) 0)

-- what `upper_area` gives
pub record UpperAreaIs (g : Leg) (r : UpperArea) : Type 0 where
  pub sum : Is (2 ^ 60) r.sum (sum_to (upper g) (g.ticks - 1))
  pub parts : r.parts ≡ upper_parts g

-- a ramp up from the start, a level part at the speed limit and a ramp down to the
-- end, of given numbers of ticks
unfoldable pub split_area : Leg → Parts → ℤ
split_area g p =
    ramp_area g.start (pos g.acceleration_limit) p.rising
    +ℤ pos p.level *ℤ pos g.speed_limit
    +ℤ ramp_area g.end (pos g.acceleration_limit) p.falling

-- the areas under the two envelopes

abbrev pub lowest_area : Leg → ℤ
lowest_area g = area_at g (neg_ℤ (pos g.speed_limit))

abbrev pub highest_area : Leg → ℤ
highest_area g = area_at g (pos g.speed_limit)
