-- Sums of a range.
use mathlib.Core.Path.{◌≡◌, refl, sym, ap, ap₂, ◌∙◌}
use Prim.Native.Nat.{ℕ, zero, suc, ◌+◌, ◌-◌, ◌≤◌}
use native.Mathlib.Omega.{arith}
use native.Mathlib.Numerals.{add-one}
use lib.IntN.{ℤ, pos, ◌+ℤ◌, ◌*ℤ◌, +ℤ_comm, +ℤ_assoc, *ℤ-zero}
use lib.Signed.{◌≤ℤ◌, ≤ℤ_refl}
use Rattle.whole.specs.Integers.{sum_to}
use Rattle.whole.proofs.Laws.{+ℤ-mono, *ℤ-+ℤ}

-- a loop from 1 on that has added the terms before k adds that of k
pub sum-through : (f : ℕ → ℤ) (k : ℕ) → 1 ≤ k → sum_to f (k - 1) +ℤ f k ≡ sum_to f (k + 1 - 1)
sum-through f zero h = absurd (omega arith)
sum-through f (suc j) h =
    ap (λ (i : ℕ). sum_to f i +ℤ f (suc j)) {x = suc j - 1} {y = j} (omega arith)
    ∙ ap (sum_to f) {x = suc j} {y = suc j + 1 - 1} (omega arith)

pub sum_first : (f : ℕ → ℤ) (n : ℕ) → sum_to f (suc n) ≡ f 1 +ℤ sum_to (λ k. f (suc k)) n
sum_first f zero = +ℤ_comm (pos 0) (f 1)
sum_first f (suc n) =
    ap (λ (z : ℤ). z +ℤ f (suc (suc n))) (sum_first f n) ∙ +ℤ_assoc (f 1) (sum_to (λ k. f (suc k)) n) (f (suc (suc n)))

pub sum_same : (f g : ℕ → ℤ) (n : ℕ) → ((k : ℕ) → k ≤ n → f k ≡ g k) → sum_to f n ≡ sum_to g n
sum_same f g zero e = refl
sum_same f g (suc n) e = ap₂ (λ (a b : ℤ). a +ℤ b) (sum_same f g n (λ k h. e k (omega arith))) (e (suc n) (omega arith))

pub sum_mono : (f g : ℕ → ℤ) (n : ℕ) → ((k : ℕ) → k ≤ n → f k ≤ℤ g k) → sum_to f n ≤ℤ sum_to g n
sum_mono f g zero h = ≤ℤ_refl (pos 0)
sum_mono f g (suc n) h = +ℤ-mono (sum_mono f g n (λ k q. h k (omega arith))) (h (suc n) (omega arith))

pub sum-times : (a : ℤ) (f : ℕ → ℤ) (n : ℕ) → sum_to (λ k. a *ℤ f k) n ≡ a *ℤ sum_to f n
sum-times a f zero = sym (*ℤ-zero a)
sum-times a f (suc n) = ap (λ (z : ℤ). z +ℤ a *ℤ f (suc n)) (sum-times a f n) ∙ sym (*ℤ-+ℤ a (sum_to f n) (f (suc n)))
