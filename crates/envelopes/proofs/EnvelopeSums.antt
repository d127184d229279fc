-- Envelope sums: `stepped` carries the sums of both envelopes to the leg that has one tick more.
use Prim.Native.Nat.{ℕ, zero, suc, ◌+◌, ◌-◌, ◌*◌, ◌/◌, ◌^◌, ◌≤◌, ◌<◌}
use mathlib.Core.Path.{◌≡◌, refl, sym, ap, ap₂, subst, ◌∙◌}
use mathlib.Core.List.{[], ◌∷◌}
use mathlib.Core.Logic.{◌⊎◌, inl, inr}
use native.Mathlib.Omega.{arith}
use native.Mathlib.Nat.{mul-suc, mul_comm, add-div_right, mul-le-mul, le_trans}
use lib.IntN.{ℤ, pos, neg_ℤ, nat_abs, ◌+ℤ◌, ◌-ℤ◌}
use lib.Signed.{◌≤ℤ◌}
use Rattle.whole.specs.Integers.{least, greatest, sum_to}
use Rattle.whole.specs.Ranges.{Within}
use Rattle.whole.proofs.Differences.{whole, all₁, all₂}
use Rattle.whole.proofs.Laws.{nat_abs-neg, nat_abs-+}
use Rattle.whole.proofs.Ring.{pol, same}
use Rattle.whole.proofs.Sums.{sum_same}
use Rattle.whole.proofs.Tests.{lt-or-le}
use Rattle.model.specs.planning.Leg.{Leg, upper, lower}
use Rattle.theorems.proofs.legs.Envelopes.{Joined, since, until, highest, lowest, clamped-within, clamped-lowest}
use Rattle.theorems.proofs.legs.Envelopes.{clamped-highest}
use Rattle.envelopes.specs.declared.sums.Sums.{Sums}
use Rattle.envelopes.specs.Sums.{crossing, peak_of, trough_of, envelope_sums_at, stepped, SumsRanged, with_ticks}
use Rattle.regions.proofs.ThreeRegions.{before, after, up_is, up-late, before-half, after-half}
use Rattle.areas.proofs.RampSums.{parts}

-- ---- a sum with one entry more

same_from : (f g : ℕ → ℤ) (n : ℕ) → ((k : ℕ) → 0 < k → k ≤ n → f k ≡ g k) → sum_to f n ≡ sum_to g n
same_from f g zero e = refl
same_from f g (suc n) e =
    ap₂ (λ (a b : ℤ). a +ℤ b) (same_from f g n (λ k h q. e k h (omega arith))) (e (suc n) (omega arith) (omega arith))

-- z stands after the first m entries of f
one_more : (f h : ℕ → ℤ) (m n : ℕ) (z : ℤ) → ((k : ℕ) → k ≤ m → h k ≡ f k) → h (suc m) ≡ z
    → ((k : ℕ) → 0 < k → k ≤ n → h (suc (m + k)) ≡ f (m + k)) → sum_to h (suc m + n) ≡ sum_to f (m + n) +ℤ z
one_more f h m n z first here last =
    parts h (suc m) n
    ∙ (λ i. (sum_same h f m first i +ℤ here i) +ℤ same_from (λ k. h (suc m + k)) (λ k. f (m + k)) n later i)
    ∙ swap (sum_to f m) z (sum_to (λ k. f (m + k)) n)
    ∙ ap (λ (w : ℤ). w +ℤ z) (sym (parts f m n))
  where
    later : (k : ℕ) → 0 < k → k ≤ n → h (suc m + k) ≡ f (m + k)
    later k p q = ap h {x = suc m + k} {y = suc (m + k)} (omega arith) ∙ last k p q

    swap : (x y z : ℤ) → (x +ℤ y) +ℤ z ≡ (x +ℤ z) +ℤ y
    swap x y z = same (x ∷ y ∷ z ∷ []) (search pol depth 20 fits 9000) tt

-- ---- one tick, over plain numbers

-- on the first ramp, further from the end
on-first : (l a b c : ℕ) (s e : ℤ) → b ≤ c → (s +ℤ pos a) ≤ℤ (e +ℤ pos b) → highest l a c s e ≡ highest l a b s e
on-first l a b c = all₂ _ (λ d e f g. simp whole (omega arith))

-- on the other ramp, further from the start
on-last : (l a b c : ℕ) (s e : ℤ) → a ≤ c → (e +ℤ pos b) ≤ℤ (s +ℤ pos a) → highest l c b s e ≡ highest l a b s e
on-last l a b c = all₂ _ (λ d e f g. simp whole (omega arith))

-- at the end, where the first ramp leads just there
at-end : (l a b c : ℕ) (s e : ℤ) → (s +ℤ pos a) ≤ℤ (e +ℤ pos 0) → Within a (e -ℤ s) → a ≤ c
    → highest l a b s e ≡ least (pos l) (least (s +ℤ pos c) (e +ℤ pos 0))
at-end l a b c = all₂ _ (λ d e f g. simp whole (omega arith))

-- both ramps a higher
raised : (p q a : ℕ) (x y : ℤ) → least (x +ℤ pos (p + a)) (y +ℤ pos (q + a)) ≡ least (x +ℤ pos p) (y +ℤ pos q) +ℤ pos a
raised p q a = all₂ _ (λ b c d e. simp whole (omega arith))

wider : (m n : ℕ) (s e : ℤ) → Within m (e -ℤ s) → nat_abs (e -ℤ s +ℤ pos (m + n)) ≡ nat_abs (e -ℤ s +ℤ pos m) + n
wider m n = all₂ _ (λ a b c d. simp whole (omega arith))

module _ (g : Leg) (joined : Joined g) (some : 0 < g.acceleration_limit) where
  abbrev a : ℕ
  a = g.acceleration_limit

  abbrev s : ℤ
  s = g.start

  abbrev e : ℤ
  e = g.end

  abbrev T : ℕ
  T = g.ticks

  abbrev longer : Leg
  longer = with_ticks g (suc T)

  near : Within (a * T) (e -ℤ s)
  near = record { within = joined.apart }

  -- ---- where the ramps cross

  pub m-late : crossing a s e T ≤ T
  unfolding crossing
  m-late = up-late g joined some (pos 0)

  rises : (k : ℕ) → k ≤ T → k ≤ crossing a s e T → (s +ℤ pos (since g k)) ≤ℤ (e +ℤ pos (until g k))
  unfolding crossing
  rises k h l = before-half _ _ _ s e (up_is g joined some (pos 0) k h) (before g joined some (pos 0) l)

  falls : (k : ℕ) → k ≤ T → crossing a s e T < k → (e +ℤ pos (until g k)) ≤ℤ (s +ℤ pos (since g k))
  unfolding crossing
  falls k h l = after-half _ _ _ s e (up_is g joined some (pos 0) k h) (after g joined some (pos 0) l)

  two-more : crossing a s e (suc (suc T)) ≡ suc (crossing a s e T)
  unfolding crossing
  two-more =
      ap (λ (n : ℕ). nat_abs (e -ℤ s +ℤ pos n) / (2 * a)) {x = a * suc (suc T)} {y = a * T + 2 * a}
      (omega (arith, mul-suc a (suc T), mul-suc a T))
      ∙ ap (λ (n : ℕ). n / (2 * a)) (wider (a * T) (2 * a) s e near)
      ∙ add-div_right (nat_abs (e -ℤ s +ℤ pos (a * T))) {k = 2 * a} (omega arith)
      ∙ omega arith

  pub peak-later : peak_of a s e (suc (suc T)) ≡ peak_of a s e T +ℤ pos a
  unfolding peak_of
  peak-later =
      ap (λ (n : ℕ). least (s +ℤ pos (a * suc n)) (e +ℤ pos (a * (suc (suc T) - n)))) two-more
      ∙ ap₂ (λ (x y : ℕ). least (s +ℤ pos x) (e +ℤ pos y)) (mul-suc a (suc m))
      (ap (λ (n : ℕ). a * n) {x = suc (suc T) - suc m} {y = suc (T - m)} (omega (arith, m-late)) ∙ mul-suc a (T - m))
      ∙ raised (a * suc m) (a * (T - m)) a s e
    where
      m : ℕ
      m = crossing a s e T

  -- ---- the upper envelope of one tick more

  same_first : (k : ℕ) → k ≤ T → k ≤ crossing a s e T → upper longer k ≡ upper g k
  same_first k h l =
      on-first g.speed_limit (a * k) (a * (T - k)) (a * (suc T - k)) s e
      (omega (arith, ap (λ (n : ℕ). a * n) {x = suc T - k} {y = suc (T - k)} (omega arith), mul-suc a (T - k)))
      (rises k h l)

  same-last : (k : ℕ) → k ≤ T → crossing a s e T < k → upper longer (suc k) ≡ upper g k
  same-last k h l =
      ap (λ (n : ℕ). highest g.speed_limit (a * suc k) (a * n) s e) {x = suc T - suc k} {y = T - k} (omega arith)
      ∙ on-last g.speed_limit (a * k) (a * (T - k)) (a * suc k) s e (omega (arith, mul-suc a k)) (falls k h l)

  abbrev z : ℤ
  z = least (pos g.speed_limit) (peak_of a s e T)

  pub upper-longer : 0 < T → sum_to (upper longer) T ≡ sum_to (upper g) (T - 1) +ℤ z
  unfolding peak_of
  upper-longer p = go (lt-or-le (crossing a s e T) T)
    where
      m : ℕ
      m = crossing a s e T

      Goal : Type 0
      Goal = sum_to (upper longer) T ≡ sum_to (upper g) (T - 1) +ℤ z

      at : (k n : ℕ) → suc k + n ≡ T → sum_to (upper longer) (suc k + n) ≡ sum_to (upper g) (k + n) +ℤ z → Goal
      at k n q r =
          ap (sum_to (upper longer)) (sym q) ∙ r
          ∙ ap (λ (j : ℕ). sum_to (upper g) j +ℤ z) {x = k + n} {y = T - 1} (omega arith)

      crossed : m < T → upper longer (suc m) ≡ z
      crossed h =
          ap (λ (n : ℕ). highest g.speed_limit (a * suc m) (a * n) s e) {x = suc T - suc m} {y = T - m} (omega arith)

      ended : T ≤ m → upper longer (suc (T - 1)) ≡ z
      ended h =
          let q : m ≡ T = omega (arith, m-late) in
          let none : a * (T - T) ≡ 0 = ap (λ (n : ℕ). a * n) {x = T - T} {y = 0} (omega arith) ∙ omega arith in
          ap (upper longer) {x = suc (T - 1)} {y = T} (omega arith)
          ∙ at-end g.speed_limit (a * T) (a * (suc T - T)) (a * suc T) s e
          (subst (λ (n : ℕ). (s +ℤ pos (a * T)) ≤ℤ (e +ℤ pos n)) none (rises T (omega arith) (omega arith))) near
          (omega (arith, mul-suc a T))
          ∙ ap (λ (n : ℕ). least (pos g.speed_limit) (least (s +ℤ pos (a * suc T)) (e +ℤ pos n))) (sym none)
          ∙ ap (λ (n : ℕ). least (pos g.speed_limit) (least (s +ℤ pos (a * suc n)) (e +ℤ pos (a * (T - n))))) (sym q)

      go : (m < T) ⊎ (T ≤ m) → Goal
      go (inl h) =
          at m (T - suc m) (omega arith)
          (one_more (upper g) (upper longer) m (T - suc m) z (λ k q. same_first k (omega arith) q) (crossed h)
          (λ k q r. same-last (m + k) (omega arith) (omega arith)))
      go (inr h) =
          at (T - 1) 0 (omega arith)
          (one_more (upper g) (upper longer) (T - 1) 0 z (λ k q. same_first k (omega arith) (omega arith)) (ended h)
          (λ k q r. absurd (omega arith)))

-- ---- the lower envelope mirrors the upper one

abbrev pub mirrored : Leg → Leg
mirrored g =
    record {
      ticks = g.ticks;
      start = neg_ℤ g.start;
      end = neg_ℤ g.end;
      speed_limit = g.speed_limit;
      acceleration_limit = g.acceleration_limit;
    }

pub turned : (m : ℕ) (s e : ℤ) → Within m (e -ℤ s) → Within m (neg_ℤ e -ℤ neg_ℤ s)
turned m = all₂ _ (λ a b c d. simp whole (omega arith))

mirror-joined : (g : Leg) → Joined g → Joined (mirrored g)
mirror-joined g j =
    record {
      start = subst (λ (n : ℕ). n ≤ g.speed_limit) (sym (nat_abs-neg g.start)) j.start;
      end = subst (λ (n : ℕ). n ≤ g.speed_limit) (sym (nat_abs-neg g.end)) j.end;
      apart = (turned (g.acceleration_limit * g.ticks) g.start g.end (record { within = j.apart })).within;
    }

sum-neg : (f h : ℕ → ℤ) (n : ℕ) → ((k : ℕ) → h k ≡ neg_ℤ (f k)) → sum_to h n ≡ neg_ℤ (sum_to f n)
sum-neg f h zero e = refl
sum-neg f h (suc n) e = ap₂ (λ (a b : ℤ). a +ℤ b) (sum-neg f h n e) (e (suc n)) ∙ both (sum_to f n) (f (suc n))
  where
    both : (x y : ℤ) → neg_ℤ x +ℤ neg_ℤ y ≡ neg_ℤ (x +ℤ y)
    both x y = same (x ∷ y ∷ []) (search pol depth 20 fits 9000) tt

pub lower-mirror : (g : Leg) (n : ℕ) → sum_to (lower g) n ≡ neg_ℤ (sum_to (upper (mirrored g)) n)
lower-mirror g n =
    sum-neg (upper (mirrored g)) (lower g) n
    (λ k. law g.speed_limit (g.acceleration_limit * k) (g.acceleration_limit * (g.ticks - k)) g.start g.end)
  where
    law : (l a b : ℕ) (s e : ℤ) → lowest l a b s e ≡ neg_ℤ (highest l a b (neg_ℤ s) (neg_ℤ e))
    law l a b = all₂ _ (λ c d e f. simp whole (omega arith))

lower-longer : (g : Leg) → Joined g → 0 < g.acceleration_limit → 0 < g.ticks
    → sum_to (lower (with_ticks g (suc g.ticks))) g.ticks
    ≡ sum_to (lower g) (g.ticks - 1)
    +ℤ greatest (neg_ℤ (pos g.speed_limit)) (trough_of g.acceleration_limit g.start g.end g.ticks)
lower-longer g j some p =
    lower-mirror (with_ticks g (suc g.ticks)) g.ticks
    ∙ ap neg_ℤ (upper-longer (mirrored g) (mirror-joined g j) some p)
    ∙ law g.speed_limit (sum_to (upper (mirrored g)) (g.ticks - 1))
    (peak_of g.acceleration_limit (neg_ℤ g.start) (neg_ℤ g.end) g.ticks)
    ∙ ap (λ (x : ℤ). x +ℤ greatest (neg_ℤ (pos g.speed_limit))
    (trough_of g.acceleration_limit g.start g.end g.ticks))
    (sym (lower-mirror g (g.ticks - 1)))
  where
    law : (l : ℕ) (x p : ℤ) → neg_ℤ (x +ℤ least (pos l) p) ≡ neg_ℤ x +ℤ greatest (neg_ℤ (pos l)) (neg_ℤ p)
    law l = all₂ _ (λ a b c d. simp whole (omega arith))

-- ---- the step

pub step_is : (g : Leg) → Joined g → 0 < g.acceleration_limit → 0 < g.ticks
    → stepped (pos g.speed_limit) (pos g.acceleration_limit) (envelope_sums_at g)
    ≡ envelope_sums_at (with_ticks g (suc g.ticks))
step_is g j some p =
    let t : g.ticks ≡ suc g.ticks - 1 = omega arith in
    let low = sym (lower-longer g j some p) in
    let high = sym (upper-longer g j some p) in
    let later = ap neg_ℤ (peak-later (mirrored g) (mirror-joined g j) some) in
    let trough = sym (later ∙ less (peak_of g.acceleration_limit _ _ g.ticks) (pos g.acceleration_limit)) in
    let peak = sym (peak-later g j some) in
    (λ i.
    record {
      lowest = low i;
      highest = high i;
      trough = trough_of g.acceleration_limit g.start g.end (suc g.ticks);
      later_trough = trough i;
      peak = peak_of g.acceleration_limit g.start g.end (suc g.ticks);
      later_peak = peak i;
    })
    ∙ (λ i.
    record {
      lowest = sum_to (lower (with_ticks g (suc g.ticks))) (t i);
      highest = sum_to (upper (with_ticks g (suc g.ticks))) (t i);
      trough = trough_of g.acceleration_limit g.start g.end (suc g.ticks);
      later_trough = trough_of g.acceleration_limit g.start g.end (suc (suc g.ticks));
      peak = peak_of g.acceleration_limit g.start g.end (suc g.ticks);
      later_peak = peak_of g.acceleration_limit g.start g.end (suc (suc g.ticks));
    })
  where
    less : (x a : ℤ) → neg_ℤ (x +ℤ a) ≡ neg_ℤ x -ℤ a
    less x a = same (x ∷ a ∷ []) (search pol depth 20 fits 9000) tt

-- ---- ranges

pub more-ticks : (g : Leg) (t : ℕ) → Joined g → g.ticks ≤ t → Joined (with_ticks g t)
more-ticks g t j h =
    record {
      start = j.start;
      end = j.end;
      apart = let steep : g.acceleration_limit ≤ g.acceleration_limit = omega arith in
          le_trans j.apart (mul-le-mul steep h);
    }

sum-within : (l : ℕ) (f : ℕ → ℤ) (n : ℕ) → ((k : ℕ) → k ≤ n → Within l (f k)) → nat_abs (sum_to f n) ≤ n * l
sum-within l f zero h = omega arith
sum-within l f (suc n) h =
    let one = (h (suc n) (omega arith)).within in
    let rest = sum-within l f n (λ k q. h k (omega arith)) in
    omega (arith, nat_abs-+ (sum_to f n) (f (suc n)), one, rest, mul_comm (suc n) l, mul-suc l n, mul_comm n l)

peak-within : (p q : ℕ) (x y : ℤ) → Within (2 ^ 37) x → Within (2 ^ 37) y → p ≤ 2 ^ 46 → q ≤ 2 ^ 46
    → Within (2 ^ 47) (least (x +ℤ pos p) (y +ℤ pos q))
peak-within p q = all₂ _ (λ a b c d. simp whole (omega arith))

module _ (g : Leg) (j : Joined g) (some : 0 < g.acceleration_limit) (speed : g.speed_limit ≤ 2 ^ 37)
    (steep : g.acceleration_limit ≤ 2 ^ 33) where
  peak-ranged : g.ticks ≤ 4100 → Within (2 ^ 47) (peak_of g.acceleration_limit g.start g.end g.ticks)
  unfolding peak_of
  peak-ranged h =
      let m : ℕ = crossing g.acceleration_limit g.start g.end g.ticks in
      let late : suc m ≤ 4101 = omega (arith, m-late g j some) in
      let left : g.ticks - m ≤ 4101 = omega arith in
      peak-within _ _ g.start g.end (record { within = omega (arith, j.start) })
      (record { within = omega (arith, j.end) })
      (omega (arith, mul-le-mul steep late)) (omega (arith, mul-le-mul steep left))

  sum-ranged : (f : ℕ → ℤ) → g.ticks ≤ 4097 → ((k : ℕ) → k ≤ g.ticks → Within g.speed_limit (f k))
      → Within (2 ^ 50) (sum_to f (g.ticks - 1))
  sum-ranged f h w =
      let few : g.ticks - 1 ≤ 4096 = omega arith in
      record {
        within = omega
            (arith, sum-within g.speed_limit f (g.ticks - 1) (λ k q. w k (omega arith)), mul-le-mul few speed);
      }

neg-within : (n : ℕ) (x : ℤ) → Within n x → Within n (neg_ℤ x)
neg-within n = all₁ _ (λ a b. simp whole (omega arith))

pub sums-ranged : (g : Leg) → Joined g → 0 < g.acceleration_limit → g.speed_limit ≤ 2 ^ 37
    → g.acceleration_limit ≤ 2 ^ 33 → g.ticks ≤ 4097
    → SumsRanged (envelope_sums_at g)
sums-ranged g j some speed steep h =
    let later = more-ticks g (suc g.ticks) j (omega arith) in
    record {
      lowest =
          sum-ranged g j some speed steep (lower g) h
          (λ k q. subst (Within g.speed_limit) (clamped-lowest g k) (clamped-within g j.start j.end _ k));
      highest =
          sum-ranged g j some speed steep (upper g) h
          (λ k q. subst (Within g.speed_limit) (clamped-highest g j k q) (clamped-within g j.start j.end _ k));
      trough = neg-within (2 ^ 47) _ (peak-ranged (mirrored g) (mirror-joined g j) some speed steep (omega arith));
      later_trough =
          neg-within (2 ^ 47) _
          (peak-ranged (mirrored (with_ticks g (suc g.ticks)))
          (mirror-joined _ later) some speed steep (omega arith));
      peak = peak-ranged g j some speed steep (omega arith);
      later_peak = peak-ranged (with_ticks g (suc g.ticks)) later some speed steep (omega arith);
    }

pub sums_same : {r q : Sums} → r.lowest ≡ q.lowest → r.highest ≡ q.highest → r.trough ≡ q.trough
    → r.later_trough ≡ q.later_trough
    → r.peak ≡ q.peak → r.later_peak ≡ q.later_peak → r ≡ q
sums_same a b c d e f =
    λ i. record { lowest = a i; highest = b i; trough = c i; later_trough = d i; peak = e i; later_peak = f i }
