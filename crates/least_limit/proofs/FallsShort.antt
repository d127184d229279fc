-- The area of a split into three parts is linear in each limit. At the value v of a limit the
-- upper envelope's own parts have its sum, and at any other value at least its sum there; so
-- the sum gains at most the parts' gain for each unit, and every value at which that is too
-- little falls short (`falls-short`).
use Prim.Native.Nat.{ℕ, ◌+◌, ◌-◌, ◌*◌, ◌^◌, ◌≤◌, ◌<◌}
use mathlib.Core.Path.{◌≡◌, refl, sym, ap, subst, ◌∙◌}
use mathlib.Core.Bool.{Bool, true, false, ◌&&◌}
use mathlib.Core.List.{[], ◌∷◌}
use native.Mathlib.Omega.{arith}
use native.Mathlib.Nat.{mul-le-mul, mul-le-mul_left, le_trans}
use lib.Dec.{leb, leb→le}
use lib.IntN.{ℤ, pos, neg_ℤ, ◌+ℤ◌, ◌*ℤ◌}
use lib.Signed.{le_z, ◌≤ℤ◌, ◌<ℤ◌}
use Rattle.whole.specs.Integers.{sum_to}
use Rattle.whole.proofs.Differences.{whole, all₃}
use Rattle.whole.proofs.Laws.{nat_abs-neg, nat_abs-+}
use Rattle.whole.proofs.Order.{le-no}
use Rattle.whole.proofs.Ring.{pol, same}
use Rattle.whole.proofs.Tests.{and_yes, and_no, leb_yes, leb_no, true-T}
use Rattle.model.specs.declared.Limit.{Limit}
use Rattle.model.specs.declared.Limit.TheVariants.{Acceleration, Speed}
use Rattle.model.specs.planning.Leg.{Leg, upper}
use Rattle.model.specs.calls.Raises.{highest}
use Rattle.theorems.proofs.legs.Envelopes.{Joined}
use Rattle.areas.specs.declared.Parts.{Parts}
use Rattle.profile.specs.Profiles.{Joinable}
use Rattle.areas.specs.Areas.{triangle, ramp_area, split_area, upper_parts}
use Rattle.profile.proofs.FeasibleParts.{joined-ends}
use Rattle.areas.proofs.UpperSplits.{split-above, split-is, parts_all}
use Rattle.least_limit.specs.declared.Task.{Task}
use Rattle.least_limit.specs.Limits.{profile_at, speed_with, acceleration_with, other, limit_in, need, unit, enough}
use Rattle.least_limit.specs.Limits.{enough_with, gain_of, TaskRanged, Allowed, PartsRanged}

module _ (t : Task) where
  abbrev pub leg_with : Limit → ℕ → Leg
  leg_with q v = profile_at t (speed_with q t v) (acceleration_with q t v)

  abbrev pub upper_sum : Limit → ℕ → ℤ
  upper_sum q v = sum_to (upper (leg_with q v)) (t.ticks - 1)

  -- ---- the area of a split is linear in the limit

  -- what it is at the limit 0
  at_zero : Limit → Parts → ℤ
  at_zero Acceleration p =
      pos p.rising *ℤ t.start +ℤ pos p.level *ℤ pos (t.steps * t.speed) +ℤ pos p.falling *ℤ t.end
  at_zero Speed p =
      ramp_area t.start (pos (t.steps * t.acceleration)) p.rising
      +ℤ ramp_area t.end (pos (t.steps * t.acceleration)) p.falling

  linear : (q : Limit) (p : Parts) (v : ℕ)
      → split_area (leg_with q v) p ≡ at_zero q p +ℤ pos (v * (t.steps * gain_of q p))
  unfolding split_area ramp_area at_zero
  linear Acceleration p v =
      apart (pos p.rising *ℤ t.start) (pos (triangle p.rising))
      (pos p.level *ℤ pos (t.steps * t.speed)) (pos p.falling *ℤ t.end)
      (pos (triangle p.falling)) (pos (t.steps * v))
      ∙ ap (λ (n : ℕ). at_zero Acceleration p +ℤ pos n)
      {x = (triangle p.rising + triangle p.falling) * (t.steps * v)}
      {y = v * (t.steps * (triangle p.rising + triangle p.falling))} (omega arith)
    where
      apart : (a x l b y k : ℤ) → (a +ℤ x *ℤ k) +ℤ l +ℤ (b +ℤ y *ℤ k) ≡ a +ℤ l +ℤ b +ℤ (x +ℤ y) *ℤ k
      apart a x l b y k = same (a ∷ x ∷ l ∷ b ∷ y ∷ k ∷ []) (search pol depth 20 fits 9000) tt
  linear Speed p v =
      last (ramp_area t.start (pos (t.steps * t.acceleration)) p.rising) (pos (p.level * (t.steps * v)))
      (ramp_area t.end (pos (t.steps * t.acceleration)) p.falling)
      ∙ ap (λ (n : ℕ). at_zero Speed p +ℤ pos n) {x = p.level * (t.steps * v)}
      {y = v * (t.steps * p.level)} (omega arith)
    where
      last : (a l b : ℤ) → a +ℤ l +ℤ b ≡ a +ℤ b +ℤ l
      last a l b = same (a ∷ l ∷ b ∷ []) (search pol depth 20 fits 9000) tt

  -- ---- the ends

  joined : (q : Limit) (v : ℕ) → TaskRanged t → Allowed q t v → Joined (leg_with q v)
  joined q v r a =
      record {
        start = le_trans r.start a.speed;
        end = le_trans r.end a.speed;
        apart = omega (arith, a.near);
      }

  some : (q : Limit) (v : ℕ) → TaskRanged t → Allowed q t v → 0 < t.steps * acceleration_with q t v
  some Acceleration v r a = le_trans (omega arith) (mul-le-mul r.one a.low)
  some Speed v r a = le_trans (omega arith) (mul-le-mul r.one r.stronger)

  -- a higher value allows the ends too
  pub allowed-higher : (q : Limit) (v w : ℕ) → Allowed q t v → v ≤ w → w ≤ highest q → Allowed q t w
  allowed-higher Acceleration v w a h m =
      record {
        low = omega (arith, a.low);
        high = m;
        speed = a.speed;
        near = le_trans a.near (mul-le-mul_left (t.steps * t.ticks) h);
      }
  allowed-higher Speed v w a h m =
      record {
        low = omega (arith, a.low);
        high = m;
        speed = le_trans a.speed (mul-le-mul_left t.steps h);
        near = a.near;
      }

  -- ---- the values that fall short, and those that do not

  above : (a b c : ℤ) (m k n : ℕ) → a ≡ b +ℤ pos m → c ≤ℤ (b +ℤ pos k) → k < m + n → c <ℤ (a +ℤ pos n)
  above a b c m k n = go a b c
    where
      go : (a b c : ℤ) → a ≡ b +ℤ pos m → c ≤ℤ (b +ℤ pos k) → k < m + n → c <ℤ (a +ℤ pos n)
      go = all₃ _ (λ a b c d e f. simp whole (omega arith))

  -- the three tests
  abbrev fast : ℕ → Bool
  fast l = leb (need Speed t) (unit Speed t * l)

  abbrev near : ℕ → Bool
  near m = leb (need Acceleration t) (unit Acceleration t * m)

  abbrev up : ℕ → ℕ → Bool
  up l m = le_z t.sum (sum_to (upper (profile_at t l m)) (t.ticks - 1))

  last-no : (a b : Bool) {c : Bool} → c ≡ false → (a && (b && c)) ≡ false
  last-no true true e = e
  last-no true false e = refl
  last-no false b e = refl

  -- `missing` is what the sum at v falls short by
  pub falls-short : (q : Limit) (v missing k : ℕ) → TaskRanged t → Allowed q t v → t.sum ≡ upper_sum q v +ℤ pos missing
      → k * (t.steps * gain_of q (upper_parts (leg_with q v)))
      < v * (t.steps * gain_of q (upper_parts (leg_with q v))) + missing
      → enough_with q t k ≡ false
  unfolding enough
  falls-short q v missing k r a e h =
      last-no (fast (speed_with q t k)) (near (acceleration_with q t k))
      (le-no t.sum (upper_sum q k) (subst (λ (z : ℤ). upper_sum q k <ℤ z) (sym e) less))
    where
      p : Parts
      p = upper_parts (leg_with q v)

      here : upper_sum q v ≡ at_zero q p +ℤ pos (v * (t.steps * gain_of q p))
      here = split-is (leg_with q v) (joined q v r a) (some q v r a) ∙ linear q p v

      there : upper_sum q k ≤ℤ (at_zero q p +ℤ pos (k * (t.steps * gain_of q p)))
      there = subst (λ (z : ℤ). upper_sum q k ≤ℤ z) (linear q p k)
          (split-above (leg_with q k) p (parts_all (leg_with q v)))

      less : upper_sum q k <ℤ (upper_sum q v +ℤ pos missing)
      less = above (upper_sum q v) (at_zero q p) (upper_sum q k) (v * (t.steps * gain_of q p))
          (k * (t.steps * gain_of q p)) missing here there h

  pub comes-up : (q : Limit) (v : ℕ) → Allowed q t v → le_z t.sum (upper_sum q v) ≡ true → enough_with q t v ≡ true
  unfolding enough
  comes-up q v a e = sym (and_yes _ _ (leb_yes a.speed) (and_yes _ _ (leb_yes a.near) (sym e)))

  -- ---- values that do not allow the ends

  by-speed : (l m : ℕ) → fast l ≡ false → enough t l m ≡ false
  unfolding enough
  by-speed l m e = sym (and_no (fast l) (near m && up l m) e)

  by-acceleration : (l m : ℕ) → near m ≡ false → enough t l m ≡ false
  unfolding enough
  by-acceleration l m e = second (fast l)
    where
      second : (b : Bool) → (b && (near m && up l m)) ≡ false
      second true = sym (and_no (near m) (up l m) e)
      second false = refl

  -- the value itself, or the other limit
  pub not-allowed : (q : Limit) (v : ℕ) → unit q t * v < need q t → enough_with q t v ≡ false
  not-allowed Acceleration v h = by-acceleration t.speed v (leb_no h)
  not-allowed Speed v h = by-speed v t.acceleration (leb_no h)

  pub other-short : (q : Limit) (v : ℕ) → leb (need (other q) t) (unit (other q) t * limit_in (other q) t) ≡ false
      → enough_with q t v ≡ false
  other-short Acceleration v e = by-speed t.speed v e
  other-short Speed v e = by-acceleration v t.acceleration e

  pub both-allow : (q : Limit) (v : ℕ) → leb (need (other q) t) (unit (other q) t * limit_in (other q) t) ≡ true
      → need q t ≤ unit q t * v → 0 < v
      → v ≤ highest q → Allowed q t v
  both-allow Acceleration v e h l m =
      record { low = l; high = m; speed = leb→le (need Speed t) (unit Speed t * t.speed) (true-T e); near = h }
  both-allow Speed v e h l m =
      record {
        low = l;
        high = m;
        speed = h;
        near = leb→le (need Acceleration t) (unit Acceleration t * t.acceleration) (true-T e);
      }

  -- ---- ranges

  pub profile-joinable : (q : Limit) (v : ℕ) → TaskRanged t → Allowed q t v
      → Joinable (profile_at t (speed_with q t v) (acceleration_with q t v))
  profile-joinable q v r a =
      record {
        acceleration = some q v r a;
        some = r.some;
        ends = joined-ends (leg_with q v) (joined q v r a);
      }

pub highest-small : (q : Limit) → highest q ≤ 1048576
highest-small Acceleration = omega arith
highest-small Speed = omega arith

pub parts-few : (g : Leg) → g.ticks ≤ 4096 → PartsRanged (upper_parts g)
parts-few g h = record { rising = omega arith; level = omega arith; falling = omega arith }

module _ (t : Task) where
  pub unit-some : (q : Limit) → TaskRanged t → 0 < unit q t
  unit-some Acceleration r = le_trans (omega arith) (mul-le-mul r.one r.some)
  unit-some Speed r = r.one

  pub unit-small : (q : Limit) → TaskRanged t → unit q t ≤ 2 ^ 28
  unit-small Acceleration r = le_trans (mul-le-mul r.steps r.ticks) (omega arith)
  unit-small Speed r = omega (arith, r.steps)

  pub need-small : (q : Limit) → TaskRanged t → need q t ≤ 2 ^ 49
  need-small Acceleration r =
      omega (arith, nat_abs-+ t.end (neg_ℤ t.start), nat_abs-neg t.start, r.start, r.end, r.fastest)
  need-small Speed r = omega (arith, r.fastest)

  pub limit-range : (q : Limit) → TaskRanged t → limit_in q t ≤ highest q
  limit-range Acceleration r = r.acceleration
  limit-range Speed r = r.speed
