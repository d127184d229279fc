-- The next number of ticks that will do: what a loop over the candidates knows.
use Prim.Native.Nat.{ℕ, ◌+◌, ◌*◌, ◌≤◌, ◌<◌}
use mathlib.Core.Path.{◌≡◌, refl, sym, ap, ◌∙◌}
use mathlib.Core.Bool.{Bool, true, false, ◌&&◌}
use mathlib.Core.Logic.{◌⊎◌, inl, inr}
use native.Mathlib.Omega.{arith}
use lib.Dec.{leb}
use lib.IntN.{ℤ, nat_abs, ◌-ℤ◌}
use Rattle.whole.proofs.Tests.{and_yes, and_no, leb_no, lt-or-le}
use Rattle.model.specs.planning.Leg.{Leg}
use Rattle.theorems.proofs.legs.Envelopes.{Joined}
use Rattle.profile.specs.Profiles.{ends_allowed, sum_between}
use Rattle.envelopes.specs.declared.sought.Sought.{Sought}
use Rattle.envelopes.specs.declared.sums.Sums.{Sums}
use Rattle.whole.specs.Candidates.{Next}
use Rattle.envelopes.specs.Sums.{envelope_sums_at, within_sums, with_ticks, sought_at, between, NearFrom}
use Rattle.profile.proofs.FeasibleParts.{joined-ends}

-- the test at t ticks, by the envelope sums there
pub between_is : (s : Sought) (g : Leg) (t : ℕ) → Joined (with_ticks g t) → (r : Sums)
    → r ≡ envelope_sums_at (with_ticks g t)
    → (w : ℤ) → w ≡ sought_at s t → within_sums r w ≡ between s g t
between_is s g t j r e w q = and_yes _ _ (joined-ends (with_ticks g t) j) (λ i. within_sums (e i) (q i))

-- one candidate more that missed
pub missed-next : (test : ℕ → Bool) (u t : ℕ) → ((k : ℕ) → u ≤ k → k < t → test k ≡ false) → test t ≡ false
    → (k : ℕ) → u ≤ k → k < t + 1 → test k ≡ false
missed-next test u t m e k h l = go (lt-or-le k t)
  where
    go : (k < t) ⊎ (t ≤ k) → test k ≡ false
    go (inl q) = m k h q
    go (inr q) = ap test {x = k} {y = t} (omega arith) ∙ e

-- ---- from the first tick at which the ends are near enough

last-fails : (a b c : Bool) → c ≡ false → (a && (b && c)) ≡ false
last-fails true true c e = e
last-fails true false c e = refl
last-fails false b c e = refl

pub far-missed : (g : Leg) (r : ℕ) → NearFrom g r → (w : ℤ) (k : ℕ) → g.ticks ≤ k → k < r
    → (ends_allowed (with_ticks g k) && sum_between (with_ticks g k) w) ≡ false
far-missed g r n w k h l =
    sym
    (and_no (ends_allowed (with_ticks g k)) (sum_between (with_ticks g k) w)
    (last-fails (leb (nat_abs g.start) g.speed_limit) (leb (nat_abs g.end) g.speed_limit)
    (leb (nat_abs (g.end -ℤ g.start)) (g.acceleration_limit * k)) (leb_no (n.far k h l))))

-- ---- those before a candidate missed

module _ (test : ℕ → Bool) (first last r : ℕ) (low : first ≤ r)
    (before : (k : ℕ) → first ≤ k → k < r → test k ≡ false) where
  -- the search goes on from there
  pub next-later : (q : ℕ) → Next test r last q → Next test first last q
  next-later q w =
      record {
        low = omega (arith, w.low);
        high = w.high;
        missed = λ k h l. missed k h l (lt-or-le k r);
        passed = w.passed;
      }
    where
      missed : (k : ℕ) → first ≤ k → k < q → (k < r) ⊎ (r ≤ k) → test k ≡ false
      missed k h l (inl p) = before k h p
      missed k h l (inr p) = w.missed k p l
