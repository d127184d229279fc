-- Sums of ramps and of level ticks, and a sum taken in parts.
use Prim.Native.Nat.{ℕ, zero, suc, ◌+◌, ◌-◌, ◌*◌, ◌/◌, ◌≤◌, ◌<◌, min}
use mathlib.Core.Path.{◌≡◌, sym, ap, ap₂, ◌∙◌}
use mathlib.Core.List.{[], ◌∷◌}
use native.Mathlib.Omega.{arith}
use native.Mathlib.Nat.{mul-suc, mul_comm}
use lib.IntN.{ℤ, pos, ◌+ℤ◌, ◌*ℤ◌, +ℤ_assoc}
use Rattle.whole.specs.Integers.{sum_to}
use Rattle.whole.proofs.Ring.{pol, same}
use Rattle.whole.proofs.Sums.{sum_first}
use Rattle.areas.specs.Areas.{triangle, ramp_area}

-- the first m ticks, then n more
pub parts : (f : ℕ → ℤ) (m n : ℕ) → sum_to f (m + n) ≡ sum_to f m +ℤ sum_to (λ k. f (m + k)) n
parts f m zero = ap (sum_to f) {x = m + zero} {y = m} (omega arith) ∙ none (sum_to f m)
  where
    none : (x : ℤ) → x ≡ x +ℤ pos 0
    none x = same (x ∷ []) (search pol depth 20 fits 9000) tt
parts f m (suc n) =
    ap (sum_to f) {x = m + suc n} {y = suc (m + n)} (omega arith)
    ∙ ap₂ (λ (a b : ℤ). a +ℤ b) (parts f m n) (ap f {x = suc (m + n)} {y = m + suc n} (omega arith))
    ∙ +ℤ_assoc (sum_to f m) (sum_to (λ k. f (m + k)) n) (f (m + suc n))

triangle-next : (n : ℕ) → triangle (suc n) ≡ triangle n + suc n
unfolding triangle
triangle-next n = halves (suc n * (suc n + 1)) (n * (n + 1)) (suc n)
    (omega (arith, mul-suc (suc n) (suc n), mul_comm (suc n) (suc n)))
  where
    halves : (x y m : ℕ) → x ≡ y + (m + m) → x / 2 ≡ y / 2 + m
    halves x y m e = omega arith

one_up : (n : ℕ) → pos (suc n) ≡ pos n +ℤ pos 1
one_up n = ap pos {x = suc n} {y = n + 1} (omega arith)

ramp-none : (v u : ℤ) → ramp_area v u 0 ≡ pos 0
unfolding ramp_area triangle
ramp-none v u = same (v ∷ u ∷ []) (search pol depth 20 fits 9000) tt

ramp-next : (v u : ℤ) (n : ℕ) → ramp_area v u (suc n) ≡ ramp_area v u n +ℤ (v +ℤ pos (suc n) *ℤ u)
unfolding ramp_area
ramp-next v u n =
    ap (λ (m : ℕ). pos (suc n) *ℤ v +ℤ pos m *ℤ u) (triangle-next n)
    ∙ ap (λ (z : ℤ). z *ℤ v +ℤ (pos (triangle n) +ℤ pos (suc n)) *ℤ u) (one_up n)
    ∙ law v u (pos n) (pos (triangle n)) (pos (suc n))
  where
    law : (v u n t m : ℤ) → (n +ℤ pos 1) *ℤ v +ℤ (t +ℤ m) *ℤ u ≡ n *ℤ v +ℤ t *ℤ u +ℤ (v +ℤ m *ℤ u)
    law v u n t m = same (v ∷ u ∷ n ∷ t ∷ m ∷ []) (search pol depth 20 fits 9000) tt

-- n ticks of a ramp that begins there, of a level part, and of a ramp that ends after them
pub ramp-sum : (f : ℕ → ℤ) (v u : ℤ) (n : ℕ) → ((k : ℕ) → 0 < k → k ≤ n → f k ≡ v +ℤ pos k *ℤ u)
    → sum_to f n ≡ ramp_area v u n
ramp-sum f v u zero e = sym (ramp-none v u)
ramp-sum f v u (suc n) e =
    ap₂ (λ (a b : ℤ). a +ℤ b) (ramp-sum f v u n (λ k h q. e k h (omega arith))) (e (suc n) (omega arith) (omega arith))
    ∙ sym (ramp-next v u n)

pub level-sum : (f : ℕ → ℤ) (c : ℤ) (n : ℕ) → ((k : ℕ) → 0 < k → k ≤ n → f k ≡ c) → sum_to f n ≡ pos n *ℤ c
level-sum f c zero e = same (c ∷ []) (search pol depth 20 fits 9000) tt
level-sum f c (suc n) e =
    ap₂ (λ (a b : ℤ). a +ℤ b) (level-sum f c n (λ k h q. e k h (omega arith))) (e (suc n) (omega arith) (omega arith))
    ∙ one_more (pos n) c
    ∙ ap (λ (z : ℤ). z *ℤ c) (sym (one_up n))
  where
    one_more : (n c : ℤ) → n *ℤ c +ℤ c ≡ (n +ℤ pos 1) *ℤ c
    one_more n c = same (n ∷ c ∷ []) (search pol depth 20 fits 9000) tt

-- the first of the level ones raised by one
pub raised-sum : (f : ℕ → ℤ) (c : ℤ) (r n : ℕ) → ((k : ℕ) → 0 < k → k ≤ n → k ≤ r → f k ≡ c +ℤ pos 1)
    → ((k : ℕ) → 0 < k → k ≤ n → r < k → f k ≡ c) → sum_to f n ≡ pos n *ℤ c +ℤ pos (min r n)
raised-sum f c r n up level =
    ap (sum_to f) {x = n} {y = min r n + (n - min r n)} (omega arith)
    ∙ parts f (min r n) (n - min r n)
    ∙ ap₂ (λ (x y : ℤ). x +ℤ y) (level-sum f (c +ℤ pos 1) (min r n) (λ k h q. up k h (omega arith) (omega arith)))
    (level-sum (λ k. f (min r n + k)) c (n - min r n)
    (λ k h q. level (min r n + k) (omega arith) (omega arith) (omega arith)))
    ∙ ring c (pos (min r n)) (pos (n - min r n))
    ∙ ap (λ (m : ℕ). pos m *ℤ c +ℤ pos (min r n)) {x = min r n + (n - min r n)} {y = n} (omega arith)
  where
    ring : (c a b : ℤ) → a *ℤ (c +ℤ pos 1) +ℤ b *ℤ c ≡ (a +ℤ b) *ℤ c +ℤ a
    ring c a b = same (c ∷ a ∷ b ∷ []) (search pol depth 20 fits 9000) tt

pub back_sum : (f : ℕ → ℤ) (v u : ℤ) (n : ℕ) → ((k : ℕ) → 0 < k → k ≤ n → f k ≡ v +ℤ pos (suc n - k) *ℤ u)
    → sum_to f n ≡ ramp_area v u n
back_sum f v u zero e = sym (ramp-none v u)
back_sum f v u (suc n) e =
    sum_first f n
    ∙ ap₂ (λ (a b : ℤ). a +ℤ b) (e 1 (omega arith) (omega arith)
    ∙ ap (λ (m : ℕ). v +ℤ pos m *ℤ u) {x = suc (suc n) - 1} {y = suc n} (omega arith))
    (back_sum (λ k. f (suc k)) v u n
    (λ k h q. e (suc k) (omega arith) (omega arith)
    ∙ ap (λ (m : ℕ). v +ℤ pos m *ℤ u) {x = suc (suc n) - suc k} {y = suc n - k} (omega arith)))
    ∙ swap (v +ℤ pos (suc n) *ℤ u) (ramp_area v u n)
    ∙ sym (ramp-next v u n)
  where
    swap : (x y : ℤ) → x +ℤ y ≡ y +ℤ x
    swap x y = same (x ∷ y ∷ []) (search pol depth 20 fits 9000) tt
