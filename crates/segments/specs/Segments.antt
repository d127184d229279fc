-- Segments: ticks over which a velocity changes by the same amount in each.
use Rattle.std.specs.Prelude.{ℕ, suc, ◌+◌, ◌-◌, ◌<◌, ◌≤◌, max, min, ◌≡◌, true, false, ltb, ℤ, ◌+ℤ◌}
use Rattle.whole.specs.Ranges.{Within}
use Rattle.regions.specs.declared.Regions.{Regions}
use Rattle.segments.specs.declared.Segment.{Segment}

-- the velocity v changes by the segment's amount in each of its ticks
pub record SegmentOf (v : ℕ → ℤ) (q : Segment) : Type 0 where
  pub even : (j : ℕ) → q.from ≤ j → j < q.until → v (suc j) ≡ v j +ℤ q.change

-- a segment of v that has tick k, ends at tick n at the latest, and changes by b at most
pub record SegmentAt (n b : ℕ) (v : ℕ → ℤ) (k : ℕ) (q : Segment) : Type 0 where
  pub segment : SegmentOf v q
  pub from : q.from ≤ k
  pub until : k < q.until
  pub short : q.until ≤ n
  pub small : Within b q.change

-- the first tick of the ramp to the end, after the ramp from the start
abbrev pub fall_begins : Regions → ℕ
fall_begins r = elim (ltb (r.rise + r.fall) r.ticks) [ true ↦ r.ticks - r.fall | false ↦ r.rise + 1 ]

-- the last raised tick of the level part, whose last tick is n
abbrev pub raised_until : Regions → ℕ → ℕ
raised_until r n = elim (ltb r.raised (n - r.rise)) [ true ↦ r.rise + r.raised | false ↦ n ]

-- a change in the ticks that two segments have in common
abbrev pub shared : ℤ → Segment → Segment → Segment
shared c q r = record { change = c; from = max q.from r.from; until = min q.until r.until }
