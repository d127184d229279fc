-- Envelope sums (docs/METHOD.md, 3.10): the sums of both envelopes of a leg, carried to the leg
-- that has one tick more. With a tick more the upper envelope has one velocity more, where its two
-- ramps cross; the others stay, so that the sum grows by it. That `stepped` gives the next leg's
-- sums is the theorem `step_is`.
use Rattle.std.specs.Prelude.{ℕ, suc, ◌-◌, ◌*◌, ◌/◌, ◌^◌, ◌≤◌, ◌<◌, ◌≡◌, Bool, ◌&&◌, ℤ, pos, neg_ℤ, nat_abs, ◌+ℤ◌, ◌-ℤ◌}
use Rattle.std.specs.Prelude.{◌*ℤ◌}
use Rattle.std.specs.Int.Signed.{le_z}
use Rattle.whole.specs.Integers.{least, greatest, sum_to}
use Rattle.whole.specs.Ranges.{Within}
use Rattle.model.specs.planning.Leg.{Leg, upper, lower}
use Rattle.envelopes.specs.declared.sought.Sought.{Sought}
use Rattle.envelopes.specs.declared.sums.Sums.{Sums}
use Rattle.profile.specs.Profiles.{ends_allowed, sum_between}

-- the last tick at which the ramp up from s is not above the ramp down to e, of t ticks, at limit a
-- a tick
unfoldable pub crossing : ℕ → ℤ → ℤ → ℕ → ℕ
crossing a s e t = nat_abs (e -ℤ s +ℤ pos (a * t)) / (2 * a)

-- the velocity that comes to the upper envelope with one tick more, before the speed limit is
-- heeded
unfoldable pub peak_of : ℕ → ℤ → ℤ → ℕ → ℤ
peak_of a s e t = least (s +ℤ pos (a * suc (crossing a s e t))) (e +ℤ pos (a * (t - crossing a s e t)))

-- the same of the lower envelope, which mirrors it
abbrev pub trough_of : ℕ → ℤ → ℤ → ℕ → ℤ
trough_of a s e t = neg_ℤ (peak_of a (neg_ℤ s) (neg_ℤ e) t)

-- the sums of a leg, and what comes to them with one and with two ticks more
abbrev pub envelope_sums_at : Leg → Sums
envelope_sums_at g =
    record {
      lowest = sum_to (lower g) (g.ticks - 1);
      highest = sum_to (upper g) (g.ticks - 1);
      trough = trough_of g.acceleration_limit g.start g.end g.ticks;
      later_trough = trough_of g.acceleration_limit g.start g.end (suc g.ticks);
      peak = peak_of g.acceleration_limit g.start g.end g.ticks;
      later_peak = peak_of g.acceleration_limit g.start g.end (suc g.ticks);
    }

-- one tick more, at speed limit l and acceleration limit a
abbrev pub stepped : ℤ → ℤ → Sums → Sums
stepped l a r =
    record {
      lowest = r.lowest +ℤ greatest (neg_ℤ l) r.trough;
      highest = r.highest +ℤ least l r.peak;
      trough = r.later_trough;
      later_trough = r.trough -ℤ a;
      peak = r.later_peak;
      later_peak = r.peak +ℤ a;
    }

-- the sum s is between the two sums
abbrev pub within_sums : Sums → ℤ → Bool
within_sums r s = le_z r.lowest s && le_z s r.highest

-- where its code does not overflow
pub record SumsRanged (r : Sums) : Type 0 where
  pub lowest : Within (2 ^ 50) r.lowest
  pub highest : Within (2 ^ 50) r.highest
  pub trough : Within (2 ^ 47) r.trough
  pub later_trough : Within (2 ^ 47) r.later_trough
  pub peak : Within (2 ^ 47) r.peak
  pub later_peak : Within (2 ^ 47) r.later_peak

-- the leg with t ticks
abbrev pub with_ticks : Leg → ℕ → Leg
with_ticks g t =
    record {
      ticks = t;
      start = g.start;
      end = g.end;
      speed_limit = g.speed_limit;
      acceleration_limit = g.acceleration_limit;
    }

-- ---- the next number of ticks that will do

-- the sum that is sought at t ticks
abbrev pub sought_at : Sought → ℕ → ℤ
sought_at s t = s.sum +ℤ pos (t - s.ticks) *ℤ s.change

-- r is s with every sign turned
pub record Turned (s r : Sought) : Type 0 where
  pub sum : r.sum ≡ neg_ℤ s.sum
  pub change : r.change ≡ neg_ℤ s.change
  pub ticks : r.ticks ≡ s.ticks

-- at t ticks: the ends can be joined, and the sum that is sought is between the sums of the
-- envelopes
abbrev pub between : Sought → Leg → ℕ → Bool
between s g t = ends_allowed (with_ticks g t) && sum_between (with_ticks g t) (sought_at s t)

-- at t ticks: the ends can be joined, and the required sum, which is s at g.ticks and changes by c
-- a tick, is between the sums of the envelopes
abbrev pub between_at : Leg → ℤ → ℤ → ℕ → Bool
between_at g s c t = ends_allowed (with_ticks g t) && sum_between (with_ticks g t) (s +ℤ pos (t - g.ticks) *ℤ c)

-- r is the least number of ticks, from those of g on, for which the ends are near enough
pub record NearFrom (g : Leg) (r : ℕ) : Type 0 where
  pub low : g.ticks ≤ r
  pub near : nat_abs (g.end -ℤ g.start) ≤ g.acceleration_limit * r
  pub far : (k : ℕ) → g.ticks ≤ k → k < r → g.acceleration_limit * k < nat_abs (g.end -ℤ g.start)
