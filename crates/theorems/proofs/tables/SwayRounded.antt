-- The sway left as rounded is at most N × G more than before rounding: a cell c is its exact value
-- x / d within a half, whichever way halves go, so the sway of the cells differs from the exact
-- sway by at most a half a row at each change.
use Prim.Native.Nat.{ℕ, zero, suc, ◌+◌, ◌-◌, ◌*◌, ◌≤◌}
use mathlib.Core.Path.{◌≡◌, sym, ap, ◌∙◌, subst}
use mathlib.Core.List.{[], ◌∷◌}
use native.Mathlib.Omega.{arith}
use native.Mathlib.Nat.{le_trans, add-mul, mul-suc}
use lib.IntN.{ℤ, pos, neg_ℤ, nat_abs, ◌+ℤ◌, ◌-ℤ◌, ◌*ℤ◌, +ℤ_idl}
use Rattle.whole.proofs.Differences.{whole, all₂}
use Rattle.whole.proofs.Laws.{nat_abs-*}
use Rattle.whole.proofs.Bounds.{add_holds, mul_holds, neg-holds}
use Rattle.whole.proofs.Ring.{pol, same}
use Rattle.whole.proofs.Rounding.{WithinHalf, half-iff}
use Rattle.model.specs.planning.Demand.{acceleration_change, sway}
use Rattle.theorems.specs.Misfit.{Entries}

module _ (d e : ℕ) (even : d ≡ 2 * e) (x c w : ℕ → ℤ) (l m G : ℕ) (near : (k : ℕ) → WithinHalf (x k) d (c k))
    (small : Entries l m G w) where
  -- d times the error of a cell
  abbrev error : ℕ → ℤ
  error k = pos d *ℤ c k -ℤ x k

  error-small : (k : ℕ) → nat_abs (error k) ≤ e
  error-small k = go (x k) (c k) (near k)
    where
      go : (x c : ℤ) → WithinHalf x d c → nat_abs (pos d *ℤ c -ℤ x) ≤ e
      go = all₂ _ (λ a b f g. simp (whole, half-iff) (omega arith))

  change-small : (k : ℕ) → nat_abs (acceleration_change error (suc k)) ≤ e + e
  change-small k =
      add_holds (error (suc k)) (neg_ℤ (error k)) e e (error-small (suc k)) (neg-holds (error k) e (error-small k))

  -- the sway is linear in the accelerations
  in_two : (n : ℕ) → pos d *ℤ sway c w m n ≡ sway x w m n +ℤ sway error w m n
  in_two zero = same (pos d ∷ c 0 ∷ x 0 ∷ w m ∷ []) (search pol depth 20 fits 9000) tt
  in_two (suc n) =
      spread (pos d) (sway c w m n) (c (suc n)) (c n) (w (m - suc n))
      ∙ ap (λ (z : ℤ). z +ℤ pos d *ℤ ((c (suc n) -ℤ c n) *ℤ w (m - suc n))) (in_two n)
      ∙ gathered (pos d) (sway x w m n) (sway error w m n) (c (suc n)) (c n) (x (suc n)) (x n) (w (m - suc n))
    where
      spread : (d s a b g : ℤ) → d *ℤ (s +ℤ (a -ℤ b) *ℤ g) ≡ d *ℤ s +ℤ d *ℤ ((a -ℤ b) *ℤ g)
      spread d s a b g = same (d ∷ s ∷ a ∷ b ∷ g ∷ []) (search pol depth 20 fits 9000) tt

      gathered : (d s u a b y z g : ℤ) → s +ℤ u +ℤ d *ℤ ((a -ℤ b) *ℤ g)
          ≡ s +ℤ (y -ℤ z) *ℤ g +ℤ (u +ℤ (d *ℤ a -ℤ y -ℤ (d *ℤ b -ℤ z)) *ℤ g)
      gathered d s u a b y z g = same (d ∷ s ∷ u ∷ a ∷ b ∷ y ∷ z ∷ g ∷ []) (search pol depth 20 fits 9000) tt

  grows : (n : ℕ) → n ≤ l → nat_abs (sway error w m n) ≤ e * G + 2 * (e * G) * n
  grows zero h =
      le_trans (mul_holds (error 0) (w m) e G (error-small 0) (small m (omega arith) (omega arith))) (omega arith)
  grows (suc n) h =
      le_trans
      (add_holds (sway error w m n) (acceleration_change error (suc n) *ℤ w (m - suc n)) (e * G + 2 * (e * G) * n)
      ((e + e) * G) (grows n (omega arith))
      (mul_holds (acceleration_change error (suc n)) (w (m - suc n)) (e + e) G (change-small n)
      (small (m - suc n) (omega arith) (omega arith))))
      (omega (arith, mul-suc (2 * (e * G)) n, add-mul e e G))

  -- the last row is exact
  module _ (n : ℕ) (some : suc n ≤ l) (whole_row : error (suc n) ≡ pos 0) where
    last-small : nat_abs (acceleration_change error (suc n)) ≤ e
    last-small =
        subst (λ (z : ℤ). nat_abs (z -ℤ error n) ≤ e) (sym whole_row)
        (subst (λ (z : ℤ). nat_abs z ≤ e) (sym (+ℤ_idl (neg_ℤ (error n)))) (neg-holds (error n) e (error-small n)))

    total : nat_abs (sway error w m (suc n)) ≤ d * (suc n * G)
    total =
        le_trans
        (add_holds (sway error w m n) (acceleration_change error (suc n) *ℤ w (m - suc n)) (e * G + 2 * (e * G) * n)
        (e * G) (grows n (omega arith))
        (mul_holds (acceleration_change error (suc n)) (w (m - suc n)) e G last-small
        (small (m - suc n) (omega arith) (omega arith))))
        (subst (λ (k : ℕ). e * G + 2 * (e * G) * n + e * G ≤ k * (suc n * G)) (sym even) (same_size e G n))
      where
        same_size : (e G n : ℕ) → e * G + 2 * (e * G) * n + e * G ≤ 2 * e * (suc n * G)
        same_size e G n = omega arith

    pub sway-rounded : (X : ℕ) → nat_abs (sway x w m (suc n)) ≤ X
        → d * nat_abs (sway c w m (suc n)) ≤ X + d * (suc n * G)
    sway-rounded X left =
        subst (λ (k : ℕ). k ≤ X + d * (suc n * G))
        (ap nat_abs (sym (in_two (suc n))) ∙ nat_abs-* (pos d) (sway c w m (suc n)))
        (add_holds (sway x w m (suc n)) (sway error w m (suc n)) X (d * (suc n * G)) left total)
