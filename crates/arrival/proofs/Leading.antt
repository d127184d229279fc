-- The search for the least common arrival: each turn of an axis leads on to a candidate before
-- which every one is missed by some axis.
use Prim.Native.Nat.{ℕ, zero, suc, ◌+◌, ◌/◌, ◌%◌, ◌≤◌, ◌<◌}
use mathlib.Core.Path.{◌≡◌, refl, sym, ap, subst, ◌∙◌}
use mathlib.Core.Bool.{Bool, true, false, cond, not, false≢true}
use mathlib.Core.List.{List}
use mathlib.Core.Logic.{◌⊎◌, inl, inr}
use native.Mathlib.Omega.{arith}
use lib.Dec.{T, eqb, eqb→eq}
use lib.ListN.{length}
use borrow.Author.Tests.{eq-eqb, ne_eqb, not-true, not-false}
use Rattle.whole.proofs.Tests.{true-T, either, lt-or-le}
use Rattle.whole.proofs.Counting.{next_one}
use Rattle.model.specs.declared.Axis.{Axis}
use Rattle.model.specs.planning.Motion.{reachable}
use Rattle.model.specs.planning.Outcome.{all_reach}
use Rattle.whole.specs.Candidates.{Next}
use Rattle.reach.specs.Halving.{Loses}
use Rattle.model.specs.planning.Job.{JobAxis, set_axes}
use Rattle.model.specs.planning.Refusals.{Passed, AllPassed}
use Rattle.theorems.proofs.motions.Threshold.{reached-slow, reached-later}
use Rattle.arrival.specs.Arrivals.{missed_by, reached_by}
use Rattle.model.proofs.SetAxes.{from, axis_at, passed-from}
use Rattle.arrival.proofs.Reaching.{missed, not_missed, no_more, later-missed}

-- ---- one axis

same_test : {f g : ℕ → Bool} {n last r : ℕ} → ((k : ℕ) → f k ≡ g k) → Next f n last r → Next g n last r
same_test e w =
    record {
      low = w.low;
      high = w.high;
      missed = λ k p q. sym (e k)
          ∙ w.missed k p q;
      passed = λ p. sym (e _) ∙ w.passed p;
    }

twice-not : (b : Bool) → b ≡ not (not b)
twice-not true = refl
twice-not false = refl

named : (m : ℕ) (x : Axis) (k : ℕ) → m % 2 ≡ 1 → reachable x k ≡ reached_by m x k
unfolding missed_by
named m x k e =
    twice-not (reachable x k) ∙ ap (λ (b : Bool). not (cond b (not (reachable x k)) false)) (sym (eq-eqb (m % 2) 1 e))

pub next_named : (m : ℕ) (x : Axis) (n last r : ℕ) → m % 2 ≡ 1 → Next (reachable x) n last r
    → Next (reached_by m x) n last r
next_named m x n last r e w = same_test (λ k. named m x k e) w

pub next_unnamed : (m : ℕ) (x : Axis) (n last : ℕ) → (m % 2 ≡ 1 → ⊥) → n ≤ suc last → Next (reached_by m x) n last n
unfolding missed_by
next_unnamed m x n last e h =
    record {
      low = omega arith;
      high = h;
      missed = λ k p q. absurd (omega arith);
      passed = λ p. ap (λ (b : Bool). not (cond b (not (reachable x n)) false)) (ne_eqb (m % 2) 1 e);
    }

pub loses_named : (m : ℕ) (x : Axis) (n : ℕ) (r : Bool) → m % 2 ≡ 1
    → Loses (reachable x) n r → Loses (reached_by m x) n r
loses_named m x n r e w =
    record {
      lost = λ h. sym (named m x n e) ∙ w.lost h;
      kept = λ h i p q. sym (named m x n e) ∙ w.kept h i p (named m x i e ∙ q);
    }

pub loses_unnamed : (m : ℕ) (x : Axis) (n : ℕ) → (m % 2 ≡ 1 → ⊥) → Loses (reached_by m x) n (eqb (m % 2) 1)
loses_unnamed m x n e =
    record {
      lost = λ h. absurd (false≢true (sym (ne_eqb (m % 2) 1 e) ∙ h));
      kept = λ h i p q. (next_unnamed m x n n e (omega arith)).passed (omega arith);
    }

-- an axis that reaches two candidates reaches every one between them
between : (m : ℕ) (x : Axis) → (m % 2 ≡ 1 → Passed x) → (j n k : ℕ) → j ≤ n → n ≤ k → reached_by m x j ≡ true
    → reached_by m x k ≡ true → reached_by m x n ≡ true
between m x f j n k p q d e = go (either (eqb (m % 2) 1))
  where
    go : (eqb (m % 2) 1 ≡ true) ⊎ (eqb (m % 2) 1 ≡ false) → reached_by m x n ≡ true
    go (inl t) =
        let h = eqb→eq (m % 2) 1 (true-T t) in
        let y = f h in
        sym (named m x n h) ∙ reached-later x y j n k p q (reached-slow x y k (named m x k h ∙ e)) (named m x j h ∙ d)
    go (inr t) =
        (next_unnamed m x n n (λ h. subst T (sym (eq-eqb (m % 2) 1 h) ∙ t) tt) (omega arith)).passed (omega arith)

-- ---- the axes by their numbers

-- the bits of a mask from axis i on
pub bits_from : ℕ → ℕ → ℕ
bits_from m zero = m
bits_from m (suc i) = bits_from m i / 2

pub bits-first : (m : ℕ) → m ≡ bits_from m 0
unfolding bits_from
bits-first m = refl

pub bits-later : (m i bits : ℕ) → bits ≡ bits_from m i → bits / 2 ≡ bits_from m (i + 1)
unfolding bits_from
bits-later m i bits e = ap (λ (k : ℕ). k / 2) e ∙ ap (bits_from m) (next_one i)

module _ (m : ℕ) (six : List Axis) where
  -- the axis of number i is not named, or reaches n
  pub reach : ℕ → ℕ → Bool
  reach i n = reached_by (bits_from m i) (axis_at six i) n

  abbrev on : ℕ → List JobAxis
  on i = from i (bits_from m i) six

  abbrev all : ℕ → Bool
  all n = all_reach (set_axes 0 m six) n

  next-on : (i : ℕ) → from (i + 1) (bits_from m i / 2) six ≡ on (suc i)
  unfolding bits_from
  next-on i = ap (λ (k : ℕ). from k (bits_from m i / 2) six) (sym (next_one i))

  passed_on : AllPassed (set_axes 0 m six) → (i : ℕ) → i ≤ length six → AllPassed (on i)
  unfolding bits_from
  passed_on p zero h = p
  passed_on p (suc i) h =
      subst AllPassed (next-on i) (passed-from i (bits_from m i) six (omega arith) (passed_on p i (omega arith))).later

  pub passed-at : AllPassed (set_axes 0 m six) → (i bits : ℕ) → bits ≡ bits_from m i → i < length six
      → bits % 2 ≡ 1 → Passed (axis_at six i)
  passed-at p i bits e h =
      (passed-from i bits six h
      (subst (λ (k : ℕ). AllPassed (from i k six)) (sym e) (passed_on p i (omega arith)))).here

  pub reach_of : (i bits n last r : ℕ) → bits ≡ bits_from m i
      → Next (reached_by bits (axis_at six i)) n last r → Next (reach i) n last r
  unfolding reach
  reach_of i bits n last r e w = subst (λ (k : ℕ). Next (reached_by k (axis_at six i)) n last r) e w

  -- what one axis misses is missed
  one-missed : (i n : ℕ) → i < length six → all_reach (on i) n ≡ false → all n ≡ false
  unfolding bits_from
  one-missed zero n h e = e
  one-missed (suc i) n h e =
      one-missed i n (omega arith)
      (later-missed n i (bits_from m i) six (omega arith) (ap (λ (l : List JobAxis). all_reach l n) (next-on i) ∙ e))

  pub axis-misses : (i : ℕ) → i < length six → (n : ℕ) → reach i n ≡ false → all n ≡ false
  unfolding reach
  axis-misses i h n e =
      one-missed i n h (missed n i (bits_from m i) six h (not-false (missed_by (bits_from m i) (axis_at six i) n) e))

  -- what every axis reaches is reached
  all-on : (d i n : ℕ) → i + d ≡ length six → ((j : ℕ) → j < length six → reach j n ≡ true) → all_reach (on i) n ≡ true
  unfolding reach
  all-on zero i n h e = no_more n i (bits_from m i) six (omega arith)
  all-on (suc d) i n h e =
      not_missed n i (bits_from m i) six (omega arith)
      (not-true (missed_by (bits_from m i) (axis_at six i) n) (e i (omega arith)))
      ∙ ap (λ (l : List JobAxis). all_reach l n) (next-on i)
      ∙ all-on d (suc i) n (omega arith) e

  pub every-axis : (n : ℕ) → ((j : ℕ) → j < length six → reach j n ≡ true) → all n ≡ true
  unfolding bits_from
  every-axis n e = all-on (length six) 0 n (omega arith) e

  -- what a test of one axis says
  pub reach-loses : (i bits n : ℕ) (r : Bool) → bits ≡ bits_from m i
      → Loses (reached_by bits (axis_at six i)) n r → Loses (reach i) n r
  unfolding reach
  reach-loses i bits n r e w = subst (λ (k : ℕ). Loses (reached_by k (axis_at six i)) n r) e w

  -- an axis that reaches two candidates reaches every one between them
  pub reach-between : AllPassed (set_axes 0 m six) → (i : ℕ) → i < length six → (j n k : ℕ) → j ≤ n → n ≤ k
      → reach i j ≡ true → reach i k ≡ true
      → reach i n ≡ true
  unfolding reach
  reach-between p i h = between (bits_from m i) (axis_at six i) (passed-at p i (bits_from m i) refl h)

-- ---- the axes lead on: the search began at first and has come to n before the turn of axis
-- `number`

pub record Led (test : ℕ → Bool) (reaches : ℕ → ℕ → Bool) (first last number again n : ℕ) : Type 0 where
  pub low : first ≤ n
  pub high : n ≤ suc last
  pub missed : (k : ℕ) → first ≤ k → k < n → test k ≡ false
  -- an axis that had its turn and reaches a later candidate reaches n
  pub held : (j : ℕ) → j < number → (k : ℕ) → n ≤ k → k ≤ last → reaches j k ≡ true → reaches j n ≡ true
  -- and it reaches n or an earlier one
  pub turned : (j : ℕ) → j < number → n ≤ last → (i : ℕ) × ((i ≤ n) × (reaches j i ≡ true))
  -- the one that led on last and those after it reach n
  pub few : again ≤ number
  pub upper : (j : ℕ) → again ≤ j → j < number → n ≤ last → reaches j n ≡ true

module _ (test : ℕ → Bool) (reaches : ℕ → ℕ → Bool) (first last number again n : ℕ)
    (s : Led test reaches first last number again n) (r : ℕ)
    (w : Next (reaches number) n last r) (one : (k : ℕ) → reaches number k ≡ false → test k ≡ false)
    (between : (i : ℕ) → i ≤ number → (j k l : ℕ) → j ≤ k → k ≤ l → reaches i j ≡ true
    → reaches i l ≡ true → reaches i k ≡ true) where
  here : (j : ℕ) → j ≡ number → r ≤ last → reaches j r ≡ true
  here j e h = ap (λ (i : ℕ). reaches i r) e ∙ w.passed h

  -- it led on, or left n
  pub turn-done : (a : ℕ) → (n < r → a ≡ number) → (r ≤ n → a ≡ again) → Led test reaches first last (number + 1) a r
  turn-done a led-on left =
      record {
        low = omega (arith, s.low, w.low);
        high = w.high;
        missed = missed;
        held = held;
        turned = turned;
        few = few (lt-or-le n r);
        upper = λ j p q h. upper j p q h (lt-or-le n r);
      }
    where
      missed : (k : ℕ) → first ≤ k → k < r → test k ≡ false
      missed k p q = go (lt-or-le k n)
        where
          go : (k < n) ⊎ (n ≤ k) → test k ≡ false
          go (inl u) = s.missed k p u
          go (inr u) = one k (w.missed k u q)

      held : (j : ℕ) → j < number + 1 → (k : ℕ) → r ≤ k → k ≤ last → reaches j k ≡ true → reaches j r ≡ true
      held j h k p q e = go (lt-or-le j number)
        where
          go : (j < number) ⊎ (number ≤ j) → reaches j r ≡ true
          go (inl u) = between j (omega arith) n r k w.low p (s.held j u k (omega (arith, w.low)) q e) e
          go (inr u) = here j (omega arith) (omega arith)

      turned : (j : ℕ) → j < number + 1 → r ≤ last → (i : ℕ) × ((i ≤ r) × (reaches j i ≡ true))
      turned j h l = go (lt-or-le j number)
        where
          go : (j < number) ⊎ (number ≤ j) → (i : ℕ) × ((i ≤ r) × (reaches j i ≡ true))
          go (inl u) =
              let t = s.turned j u (omega (arith, w.low)) in
              (t.0, (omega (arith, t.1.0, w.low), t.1.1))
          go (inr u) = (r, (omega arith, here j (omega arith) l))

      few : (n < r) ⊎ (r ≤ n) → a ≤ number + 1
      few (inl u) = omega (arith, led-on u)
      few (inr u) = omega (arith, left u, s.few)

      upper : (j : ℕ) → a ≤ j → j < number + 1 → r ≤ last → (n < r) ⊎ (r ≤ n) → reaches j r ≡ true
      upper j p q h (inl u) = here j (omega (arith, led-on u)) h
      upper j p q h (inr u) = go (lt-or-le j number)
        where
          go : (j < number) ⊎ (number ≤ j) → reaches j r ≡ true
          go (inl o) =
              let k : r ≡ n = omega (arith, w.low) in
              ap (reaches j) k ∙ s.upper j (omega (arith, left u)) o (omega arith)
          go (inr o) = here j (omega arith) h

-- ---- what they lead to: it is reached by all, or no candidate is

module _ (test : ℕ → Bool) (reaches : ℕ → ℕ → Bool) (first last count again n : ℕ)
    (s : Led test reaches first last count again n)
    (one : (i : ℕ) → i < count → (k : ℕ) → reaches i k ≡ false → test k ≡ false)
    (all : (k : ℕ) → ((i : ℕ) → i < count → reaches i k ≡ true) → test k ≡ true) where
  -- those before the one that led on last reach it too
  pub led-all : n ≤ last → ((j : ℕ) → j < again → reaches j n ≡ true) → Next test first last n
  led-all h f = record { low = s.low; high = s.high; missed = s.missed; passed = λ l. all n each }
    where
      each : (j : ℕ) → j < count → reaches j n ≡ true
      each j o = go (lt-or-le j again)
        where
          go : (j < again) ⊎ (again ≤ j) → reaches j n ≡ true
          go (inl u) = f j u
          go (inr u) = s.upper j u o h

  -- one of them does not
  pub led-nowhere : (i : ℕ) → i < count → reaches i n ≡ false → Next test first last (last + 1)
  led-nowhere i o e =
      record {
        low = omega (arith, s.low, s.high);
        high = omega arith;
        missed = missed;
        passed = λ l. absurd (omega arith);
      }
    where
      missed : (k : ℕ) → first ≤ k → k < last + 1 → test k ≡ false
      missed k p q = go (lt-or-le k n)
        where
          go : (k < n) ⊎ (n ≤ k) → test k ≡ false
          go (inl l) = s.missed k p l
          go (inr l) = by (either (reaches i k))
            where
              by : (reaches i k ≡ true) ⊎ (reaches i k ≡ false) → test k ≡ false
              by (inl t) = absurd (subst T (sym (s.held i o k l (omega arith) t) ∙ e) tt)
              by (inr f) = one i o k f
