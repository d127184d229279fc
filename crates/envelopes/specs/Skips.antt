-- Numbers of ticks that surely fall short (docs/METHOD.md, 3.10): the ticks of a leg, however they
-- are split into a ramp up, a level part and a ramp down, have at least the area of its upper
-- envelope (`split-above`). Where that is less than the required sum, the leg cannot be made, and
-- by `reach-goes-on` no shorter one can.
use Rattle.std.specs.Prelude.{ℕ, suc, ◌-◌, ◌≤◌, ◌<◌, ◌≡◌, Bool, false, ℤ, neg_ℤ, ◌<ℤ◌}
use Rattle.whole.specs.Integers.{sum_to}
use Rattle.model.specs.planning.Leg.{Leg, upper}
use Rattle.areas.specs.declared.Parts.{Parts}
use Rattle.envelopes.specs.declared.sought.Sought.{Sought}
use Rattle.envelopes.specs.Sums.{with_ticks, sought_at}

-- none from first on and before r passes
pub record Skips (test : ℕ → Bool) (first last r : ℕ) : Type 0 where
  pub low : first ≤ r
  pub high : r ≤ suc last
  pub missed : (k : ℕ) → first ≤ k → k < r → test k ≡ false

-- ---- legs that fall short

-- the upper envelope has less than the sum s
abbrev pub Short : Leg → ℤ → Type 0
Short g s = sum_to (upper g) (g.ticks - 1) <ℤ s

-- the leg with t ticks falls short of the sum that is sought there
abbrev pub ShortAt : Leg → Sought → ℕ → Type 0
ShortAt g s t = Short (with_ticks g t) (sought_at s t)

-- r is the number of ticks of g, or the number before r falls short
pub record ShortTo (g : Leg) (s : Sought) (last r : ℕ) : Type 0 where
  pub low : g.ticks ≤ r
  pub high : r ≤ suc last
  pub short : g.ticks < r → ShortAt g s (r - 1)

-- ---- the ticks of a leg, and its mirror

-- some ticks on the first ramp, some on the other one, and the rest level
abbrev pub split_at : Leg → ℕ → ℕ → Parts
split_at p m n = record { rising = m; level = p.ticks - 1 - m - n; falling = n }

-- with every sign turned
abbrev pub turned_about : Leg → Leg
turned_about p =
    record {
      speed_limit = p.speed_limit;
      acceleration_limit = p.acceleration_limit;
      start = neg_ℤ p.start;
      end = neg_ℤ p.end;
      ticks = p.ticks;
    }
