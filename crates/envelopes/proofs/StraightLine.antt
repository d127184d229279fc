-- The straight line between the ends of a leg is above the lower envelope on the whole. So a
-- leg that goes at least as far as the line has its required sum above the lower envelope's,
-- whatever the limits (`above_lower`).
use Prim.Native.Nat.{ℕ, zero, suc, ◌+◌, ◌-◌, ◌*◌, ◌≤◌, ◌<◌}
use mathlib.Core.Path.{◌≡◌, refl, sym, ap, subst, ◌∙◌}
use mathlib.Core.List.{[], ◌∷◌}
use native.Mathlib.Omega.{arith}
use lib.IntN.{ℤ, pos, ◌+ℤ◌, ◌-ℤ◌, ◌*ℤ◌}
use lib.Signed.{◌≤ℤ◌, ◌<ℤ◌, ≤ℤ_refl}
use Rattle.whole.specs.Integers.{sum_to}
use Rattle.whole.specs.Ranges.{Within}
use Rattle.whole.proofs.Differences.{whole, all₂, all₄}
use Rattle.whole.proofs.Laws.{+ℤ-mono}
use Rattle.whole.proofs.Ring.{pol, same}
use Rattle.whole.proofs.Rounding.{shr-floor}
use Rattle.whole.proofs.Sums.{sum_first, sum_same}
use Rattle.model.specs.planning.Leg.{Leg, lower, required}
use Rattle.theorems.proofs.legs.Envelopes.{Joined, since, until, lowest, apart-at}

-- ---- sums

backwards : (f : ℕ → ℤ) (n : ℕ) → sum_to f n ≡ sum_to (λ k. f (suc n - k)) n
backwards f zero = refl
backwards f (suc n) =
    sum_first f n
    ∙ ap (λ (z : ℤ). f 1 +ℤ z)
    (backwards (λ k. f (suc k)) n
    ∙ sum_same (λ k. f (suc (suc n - k))) (λ k. f (suc (suc n) - k)) n
    (λ k h. ap f {x = suc (suc n - k)} {y = suc (suc n) - k} (omega arith)))
    ∙ swap (f 1) (sum_to (λ k. f (suc (suc n) - k)) n)
    ∙ ap (λ (m : ℕ). sum_to (λ k. f (suc (suc n) - k)) n +ℤ f m) {x = 1} {y = suc (suc n) - suc n} (omega arith)
  where
    swap : (x y : ℤ) → x +ℤ y ≡ y +ℤ x
    swap x y = same (x ∷ y ∷ []) (search pol depth 20 fits 9000) tt

both_below : (f h : ℕ → ℤ) (z : ℤ) (n : ℕ) → ((k : ℕ) → 0 < k → k ≤ n → (f k +ℤ h k) ≤ℤ z)
    → (sum_to f n +ℤ sum_to h n) ≤ℤ (pos n *ℤ z)
both_below f h z zero e = subst (λ (y : ℤ). pos 0 ≤ℤ y) (none z) (≤ℤ_refl (pos 0))
  where
    none : (z : ℤ) → pos 0 ≡ pos 0 *ℤ z
    none z = same (z ∷ []) (search pol depth 20 fits 9000) tt
both_below f h z (suc n) e =
    grouped (sum_to f n) (f (suc n)) (sum_to h n) (h (suc n))
    (+ℤ-mono (both_below f h z n (λ k p q. e k p (omega arith))) (e (suc n) (omega arith) (omega arith)))
  where
    one_more : (n z : ℤ) → n *ℤ z +ℤ z ≡ (n +ℤ pos 1) *ℤ z
    one_more n z = same (n ∷ z ∷ []) (search pol depth 20 fits 9000) tt

    grouped : (a b c d : ℤ) → ((a +ℤ c) +ℤ (b +ℤ d)) ≤ℤ (pos n *ℤ z +ℤ z) → ((a +ℤ b) +ℤ (c +ℤ d)) ≤ℤ (pos (suc n) *ℤ z)
    grouped a b c d p =
        subst (λ (y : ℤ). ((a +ℤ b) +ℤ (c +ℤ d)) ≤ℤ y)
        (one_more (pos n) z ∙ ap (λ (m : ℕ). pos m *ℤ z) {x = n + 1} {y = suc n} (omega arith))
        (subst (λ (y : ℤ). y ≤ℤ (pos n *ℤ z +ℤ z)) (same (a ∷ b ∷ c ∷ d ∷ []) (search pol depth 20 fits 9000) tt) p)

-- ---- a tick and the one as far from the end

pair : (l a b : ℕ) (s e : ℤ) → Within l s → Within l e → Within (a + b) (e -ℤ s)
    → (lowest l a b s e +ℤ lowest l b a s e) ≤ℤ (s +ℤ e)
pair l a b = all₂ _ (λ c d e f. simp whole (omega arith))

module _ (g : Leg) (j : Joined g) where
  abbrev T : ℕ
  T = g.ticks

  pair-at : (k : ℕ) → k ≤ T → (lower g k +ℤ lower g (T - k)) ≤ℤ (g.start +ℤ g.end)
  pair-at k h =
      subst (λ (m : ℕ). (lower g k +ℤ lowest g.speed_limit (until g k) (g.acceleration_limit * m) g.start g.end)
      ≤ℤ (g.start +ℤ g.end)) back
      (pair g.speed_limit (since g k) (until g k) g.start g.end (record { within = j.start })
      (record { within = j.end }) (apart-at g j k h))
    where
      back : k ≡ T - (T - k)
      back = omega arith

  twice-lower : 0 < T → (sum_to (lower g) (T - 1) +ℤ sum_to (lower g) (T - 1)) ≤ℤ (pos (T - 1) *ℤ (g.start +ℤ g.end))
  twice-lower some =
      subst (λ (z : ℤ). (sum_to (lower g) (T - 1) +ℤ z) ≤ℤ (pos (T - 1) *ℤ (g.start +ℤ g.end))) (sym turned)
      (both_below (lower g) (λ k. lower g (T - k)) (g.start +ℤ g.end) (T - 1) (λ k h q. pair-at k (omega arith)))
    where
      turned : sum_to (lower g) (T - 1) ≡ sum_to (λ k. lower g (T - k)) (T - 1)
      turned =
          backwards (lower g) (T - 1)
          ∙ sum_same (λ k. lower g (suc (T - 1) - k)) (λ k. lower g (T - k)) (T - 1)
          (λ k h. ap (lower g) {x = suc (T - 1) - k} {y = T - k} (omega arith))

  pub above_lower : 0 < T → (d : ℤ) → (pos T *ℤ (g.start +ℤ g.end)) ≤ℤ d → sum_to (lower g) (T - 1) ≤ℤ required g d
  above_lower some d far =
      half (sum_to (lower g) (T - 1)) (pos (T - 1) *ℤ z) (d -ℤ g.start -ℤ g.end) (required g d) (twice-lower some) room
      (shr-floor (d -ℤ g.start -ℤ g.end) 2 (omega arith)).high
    where
      z : ℤ
      z = g.start +ℤ g.end

      half : (x y t r : ℤ) → (x +ℤ x) ≤ℤ y → y ≤ℤ t → t <ℤ (pos 2 *ℤ r +ℤ pos 2) → x ≤ℤ r
      half = all₄ _ (λ a b c d e f g h. simp whole (omega arith))

      split : pos T *ℤ z ≡ pos (T - 1) *ℤ z +ℤ z
      split = ap (λ (m : ℕ). pos m *ℤ z) {x = T} {y = T - 1 + 1} (omega arith) ∙ law (pos (T - 1)) z
        where
          law : (n z : ℤ) → (n +ℤ pos 1) *ℤ z ≡ n *ℤ z +ℤ z
          law n z = same (n ∷ z ∷ []) (search pol depth 20 fits 9000) tt

      less : (x s e d : ℤ) → (x +ℤ (s +ℤ e)) ≤ℤ d → x ≤ℤ (d -ℤ s -ℤ e)
      less = all₄ _ (λ a b c d e f g h. simp whole (omega arith))

      room : (pos (T - 1) *ℤ z) ≤ℤ (d -ℤ g.start -ℤ g.end)
      room = less (pos (T - 1) *ℤ z) g.start g.end d (subst (λ (y : ℤ). y ≤ℤ d) split far)
