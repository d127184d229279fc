-- The least tick that fits a window, from the tick on that the axes lead to: where all reach it, it
-- is the least common arrival, and else there is none.
use Prim.Native.Nat.{ℕ, ◌-◌, ◌≤◌, ◌<◌}
use mathlib.Core.Path.{◌≡◌, refl, sym, ap, subst, ◌∙◌}
use lib.Dec.{T}
use mathlib.Core.Bool.{Bool, true, false, ◌&&◌}
use mathlib.Core.Logic.{◌⊎◌, inl, inr}
use Rattle.std.specs.Prelude.{None}
use native.Mathlib.Omega.{arith}
use Rattle.whole.proofs.Tests.{T_true, T_false, true-T, right, and_no, lt-or-le}
use Rattle.theorems.proofs.jobs.LeastTick.{Least, Result}
use Rattle.whole.specs.Candidates.{Next}

-- none before r passes, and where a later one does r does too
pub record LedTo (test : ℕ → Bool) (first last r : ℕ) : Type 0 where
  pub low : first ≤ r
  pub missed : (k : ℕ) → first ≤ k → k < r → test k ≡ false
  pub held : (k : ℕ) → r ≤ k → k ≤ last → test k ≡ true → test r ≡ true

pub nowhere-else : (test : ℕ → Bool) (first last n : ℕ) → LedTo test first last n → (n ≤ last → test n ≡ false)
    → (k : ℕ) → first ≤ k → k ≤ last → test k ≡ false
nowhere-else test first last n w e k p q = go (lt-or-le k n)
  where
    go : (k < n) ⊎ (n ≤ k) → test k ≡ false
    go (inl l) = w.missed k p l
    go (inr l) = T_false (test k) (λ t. subst T (sym (w.held k l q (T_true (test k) t)) ∙ e (omega arith)) tt)

-- a first candidate that passes where it is one
pub at_first : (reach : ℕ → Bool) (first after : ℕ) → 1 ≤ after → (first < after → reach first ≡ true) → first ≤ after
    → Next reach first (after - 1) first
at_first reach first after s h l =
    record {
      low = omega arith;
      high = omega arith;
      missed = λ k p q. absurd (omega arith);
      passed = λ q. h (omega arith);
    }

module _ (fit reach : ℕ → Bool) (first after n : ℕ) (led : Next reach first (after - 1) n) where
  abbrev test : ℕ → Bool
  test k = fit k && reach k

  no-fit : (k : ℕ) → (fit k ≡ true → ⊥) → test k ≡ false
  no-fit k e = sym (and_no (fit k) (reach k) (T_false (fit k) (λ t. e (T_true (fit k) t))))

  pub no-reach : (k : ℕ) → reach k ≡ false → test k ≡ false
  no-reach k e = ap (λ (b : Bool). fit k && b) e ∙ go (fit k)
    where
      go : (b : Bool) → b && false ≡ false
      go true = refl
      go false = refl

  -- none fits
  pub nothing-fits : Result fit n (after - n) None → (k : ℕ) → first ≤ k → k < after → test k ≡ false
  nothing-fits r k p q = go (lt-or-le k n)
    where
      go : (k < n) ⊎ (n ≤ k) → test k ≡ false
      go (inl u) = no-reach k (led.missed k p u)
      go (inr u) = no-fit k (λ e. r k u (omega arith) e)

  -- the axes lead to the least that fits
  module _ (t : ℕ) (l : Least fit n (after - n) t)
      (between : (j i k : ℕ) → j ≤ i → i ≤ k → reach j ≡ true → reach k ≡ true → reach i ≡ true) where
    pub led-fitting : LedTo test first (after - 1) t
    led-fitting = record { low = omega (arith, led.low, l.first); missed = missed; held = held }
      where
        missed : (k : ℕ) → first ≤ k → k < t → test k ≡ false
        missed k p q = go (lt-or-le k n)
          where
            go : (k < n) ⊎ (n ≤ k) → test k ≡ false
            go (inl u) = no-reach k (led.missed k p u)
            go (inr u) = no-fit k (λ e. l.least k u q e)

        held : (k : ℕ) → t ≤ k → k ≤ after - 1 → test k ≡ true → test t ≡ true
        held k p q e =
            let rk = T_true (reach k) (right (fit k) (reach k) (true-T e)) in
            let rn = led.passed (omega (arith, l.first)) in
            let rt = between n t k l.first p rn rk in
            λ i. l.passes i && rt i
