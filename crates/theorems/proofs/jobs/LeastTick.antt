-- The least of some candidates that passes a test is the only result that a search
-- can have: `result`, `one-result`.
use Prim.Native.Nat.{ℕ, zero, suc, ◌+◌, ◌<◌, ◌≤◌}
use native.Mathlib.Omega.{arith}
use mathlib.Core.Path.{◌≡◌, refl, sym, ap, subst, ◌∙◌}
use mathlib.Core.Bool.{Bool, true, false, false≢true}
use mathlib.Core.Logic.{⊎_elim}
use Rattle.std.specs.Prelude.{Option, None, Some}
use Rattle.whole.proofs.Tests.{lt-or-le}
use Rattle.model.specs.planning.Outcome.{least_from}

-- n is the least, of count candidates from k on
pub record Least (test : ℕ → Bool) (k count n : ℕ) : Type 0 where
  pub first : k ≤ n
  pub last : n < k + count
  pub passes : test n ≡ true
  pub least : (i : ℕ) → k ≤ i → i < n → test i ≡ true → ⊥

abbrev pub Result : (ℕ → Bool) → ℕ → ℕ → Option ℕ → Type 0
Result test k count None = (i : ℕ) → k ≤ i → i < k + count → test i ≡ true → ⊥
Result test k count (Some n) = Least test k count n

pub result : (test : ℕ → Bool) (k count : ℕ) → Result test k count (least_from test k count)
result test k zero = λ i a b e. omega arith
result test k (suc count) = go (test k) refl (least_from test (suc k) count) (result test (suc k) count)
  where
    -- candidate k does not pass, so that one that does is a later one
    later : test k ≡ false → (i : ℕ) → k ≤ i → test i ≡ true → suc k ≤ i
    later e i h t = ⊎_elim (λ l. l) (λ l. absurd (here l)) (lt-or-le k i)
      where
        here : i ≤ k → ⊥
        here l = let s : k ≡ i = omega arith in false≢true (sym e ∙ ap test s ∙ t)

    go : (b : Bool) → test k ≡ b → (o : Option ℕ) → Result test (suc k) count o
        → Result test k (suc count) (elim b as (λ _. Option ℕ) [ true ↦ Some k | false ↦ o ])
    go true e o h = record { first = omega arith; last = omega arith; passes = e; least = λ i a b t. omega arith }
    go false e None h = λ i a b t. h i (later e i a t) (omega arith) t
    go false e (Some n) h =
        record {
          first = omega (arith, h.first);
          last = omega (arith, h.last);
          passes = h.passes;
          least = λ i a b t. h.least i (later e i a t) b t;
        }

-- the same of a search that found n, and of one that found none
pub least-is : (test : ℕ → Bool) (k count n : ℕ) → least_from test k count ≡ Some n → Least test k count n
least-is test k count n e = subst (Result test k count) e (result test k count)

pub none_is : (test : ℕ → Bool) (k count : ℕ) → least_from test k count ≡ None → Result test k count None
none_is test k count e = subst (Result test k count) e (result test k count)

pub one-result : (test : ℕ → Bool) (k count : ℕ) (o p : Option ℕ) → Result test k count o
    → Result test k count p → o ≡ p
one-result test k count None None h g = refl
one-result test k count None (Some n) h g = absurd (h n g.first g.last g.passes)
one-result test k count (Some m) None h g = absurd (g m h.first h.last h.passes)
one-result test k count (Some m) (Some n) h g =
    ap Some
    (⊎_elim (λ l. absurd (g.least m h.first l h.passes))
    (λ l. ⊎_elim (λ q. absurd (h.least n g.first q g.passes)) (same l) (lt-or-le n m)) (lt-or-le m n))
  where
    same : n ≤ m → m ≤ n → m ≡ n
    same l q = omega arith
