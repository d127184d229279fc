-- The misfit of a list that fits a pole whose weight and half periods are not quite those of the
-- axis.
use Prim.Native.Nat.{ℕ, zero, suc, ◌+◌, ◌-◌, ◌*◌, ◌≤◌, ◌<◌}
use mathlib.Core.Path.{◌≡◌, sym, ap, ◌∙◌, subst}
use mathlib.Core.List.{[], ◌∷◌}
use mathlib.Core.Logic.{⊎_elim}
use native.Mathlib.Omega.{arith}
use native.Mathlib.Nat.{le_trans, add-mul, mul-add, mul-le-mul_left, mul-le-mul_right}
use lib.IntN.{ℤ, pos, neg_ℤ, nat_abs, ◌+ℤ◌, ◌-ℤ◌, ◌*ℤ◌, +ℤ_invr}
use Rattle.whole.proofs.Differences.{whole, all₂}
use Rattle.whole.proofs.Bounds.{add_holds, mul_holds, neg-holds}
use Rattle.whole.proofs.Laws.{nat_abs-*}
use Rattle.whole.proofs.Ring.{pol, same}
use Rattle.whole.proofs.Tests.{lt-or-le}
use Rattle.model.specs.declared.Axis.{Axis}
use Rattle.std.specs.Prelude.{Option, None, Some}
use Rattle.model.specs.planning.Quantities.{half_period, second_weight, sway_delay, second_half_period, delay}
use Rattle.model.specs.planning.Rows.{planned_axis, blend, divisor}
use Rattle.model.specs.planning.Demand.{CellTable, acceleration_cell, sway}
use Rattle.theorems.proofs.tables.SwayExact.{sway-weighted}
use Rattle.theorems.specs.Misfit.{misfit_once, misfit_by, misfit, Misfits, Entries, apart, Gentle, TruePole}
use Rattle.theorems.specs.Misfit.{weights, SwayOf, weighted, by_tick, measured_misfit, first_misfit_by, first_misfit}
use Rattle.theorems.specs.Misfit.{second_misfit, MeasuredMisfits, rounding_left, SwayLeft, PoleLeft, MeasuredLeft}

-- ---- entries k apart

module _ (w : ℕ → ℤ) (m D : ℕ) (gentle : Gentle m D w) where
  further : (i k : ℕ) → i + k ≤ m → nat_abs (w (i + k) -ℤ w i) ≤ k * D
  further i zero h =
      let e : i + 0 ≡ i = omega arith in
      let none : nat_abs (w (i + 0) -ℤ w i) ≡ 0 = ap nat_abs (ap (λ (n : ℕ). w n -ℤ w i) e ∙ +ℤ_invr (w i)) in
      omega arith
  further i (suc k) h =
      let e : suc (i + k) ≡ i + suc k = omega arith in
      subst (λ (z : ℤ). nat_abs z ≤ suc k * D) (steps (w (suc (i + k))) (w (i + k)) (w i)
      ∙ ap (λ (n : ℕ). w n -ℤ w i) e)
      (le_trans
      (add_holds (w (suc (i + k)) -ℤ w (i + k)) (w (i + k) -ℤ w i) D (k * D)
      (gentle (i + k) (omega arith)) (further i k (omega arith)))
      (omega arith))
    where
      steps : (x y z : ℤ) → x -ℤ y +ℤ (y -ℤ z) ≡ x -ℤ z
      steps x y z = same (x ∷ y ∷ z ∷ []) (search pol depth 20 fits 9000) tt

  -- entries j + q and j + p
  between : (j p q : ℕ) → j + p ≤ m → j + q ≤ m → nat_abs (w (j + q) -ℤ w (j + p)) ≤ apart p q * D
  between j p q a b = ⊎_elim later earlier (lt-or-le p q)
    where
      ahead : (j p q : ℕ) → p ≤ q → j + q ≤ m → nat_abs (w (j + q) -ℤ w (j + p)) ≤ (q - p) * D
      ahead j p q l b =
          let e : j + p + (q - p) ≡ j + q = omega arith in
          subst (λ (n : ℕ). nat_abs (w n -ℤ w (j + p)) ≤ (q - p) * D) e (further (j + p) (q - p) (omega arith))

      turned : (x y : ℤ) → nat_abs (y -ℤ x) ≤ nat_abs (x -ℤ y)
      turned = all₂ _ (λ a b c d. simp whole (omega arith))

      later : p < q → nat_abs (w (j + q) -ℤ w (j + p)) ≤ apart p q * D
      later l = let u : q - p ≤ apart p q = omega arith in le_trans (ahead j p q (omega arith) b) (mul-le-mul_right D u)

      earlier : q ≤ p → nat_abs (w (j + q) -ℤ w (j + p)) ≤ apart p q * D
      earlier l =
          let u : p - q ≤ apart p q = omega arith in
          le_trans (turned (w (j + p)) (w (j + q))) (le_trans (ahead j q p l a) (mul-le-mul_right D u))

module _ (x : Axis) where
  abbrev h : ℕ
  h = half_period x

  abbrev A : ℤ
  A = pos (256 - second_weight x)

  abbrev B : ℤ
  B = pos (second_weight x)

  -- the misfit of two blends, by the pairs of the second
  pub second-misfit : (d : ℕ) (w : ℕ → ℤ) (i : ℕ) → x.second_sway ≡ Some d
      → misfit x w i ≡ A *ℤ (pos 1 *ℤ w (i + h + d) +ℤ pos 1 *ℤ w (i + h)) +ℤ B *ℤ (pos 1 *ℤ w (i + d) +ℤ pos 1 *ℤ w i)
  second-misfit d w i e =
      let order : i + d + h ≡ i + h + d = omega arith in
      ap (λ (u : Option ℕ). misfit_by u x w i) e
      ∙ same (A ∷ B ∷ w (i + d + h) ∷ w (i + d) ∷ w (i + h) ∷ w i ∷ []) (search pol depth 20 fits 9000) tt
      ∙ ap (λ (k : ℕ). A *ℤ (pos 1 *ℤ w k +ℤ pos 1 *ℤ w (i + h)) +ℤ B *ℤ (pos 1 *ℤ w (i + d) +ℤ pos 1 *ℤ w i)) order

-- ---- one blend of a sway of the pole t

module _ (t : TruePole) (m G D : ℕ) (u : ℕ → ℤ) (is : SwayOf t m G D u) where
  -- entries of tick i and of half a period later are looked at
  inside : (i : ℕ) → i ≤ m → t.entries * i + t.turn ≤ t.entries * m + t.turn
  inside i q = let l : t.entries * i ≤ t.entries * m = mul-le-mul_left t.entries q in omega arith

  one-blend : (A B h j : ℕ) → j + h ≤ m
      → nat_abs (pos A *ℤ weighted t u (j + h) +ℤ pos B *ℤ weighted t u j) ≤ measured_misfit A B h t G D
  one-blend A B h j q =
      subst (λ (k : ℤ). nat_abs k ≤ measured_misfit A B h t G D) (sym split)
      (le_trans
      (add_holds (pos (c * A) *ℤ (y -ℤ z)) (off *ℤ (z -ℤ v))
      (c * A * (apart t.turn (t.entries * h) * D)) (size-of-off * (G + G))
      (mul_holds (pos (c * A)) (y -ℤ z) (c * A) (apart t.turn (t.entries * h) * D) (omega arith) near)
      (mul_holds off (z -ℤ v) size-of-off (G + G) (size ((A + B) * t.after) (c * B))
      (add_holds z (neg_ℤ v) G G (is.small (at + t.turn) (inside j (omega arith)))
      (neg-holds v G (is.small at (omega (arith, inside j (omega arith))))))))
      (omega (arith, sorted c A (apart t.turn (t.entries * h) * D) size-of-off G)))
    where
      c : ℕ
      c = weights t

      at : ℕ
      at = t.entries * j

      y : ℤ
      y = u (t.entries * (j + h))

      z : ℤ
      z = u (at + t.turn)

      v : ℤ
      v = u at

      off : ℤ
      off = pos ((A + B) * t.after) -ℤ pos (c * B)

      size-of-off : ℕ
      size-of-off = apart ((A + B) * t.after) (c * B)

      size : (a b : ℕ) → nat_abs (pos a -ℤ pos b) ≤ apart a b
      size a b = simp whole (omega arith)

      sorted : (c A e o G : ℕ) → c * A * e + o * (G + G) ≤ 2 * (o * G) + c * (A * e)
      sorted c A e o G = omega arith

      near : nat_abs (y -ℤ z) ≤ apart t.turn (t.entries * h) * D
      near =
          let later : at + t.entries * h ≡ t.entries * (j + h) = sym (mul-add t.entries j h) in
          subst (λ (k : ℕ). nat_abs (u k -ℤ z) ≤ apart t.turn (t.entries * h) * D) later
          (between u (t.entries * m + t.turn) D is.gentle at t.turn (t.entries * h) (inside j (omega arith))
          (omega (arith, later, inside (j + h) q)))

      parts : (A B a b y z v : ℤ) → A *ℤ ((a +ℤ b) *ℤ y) +ℤ B *ℤ ((a +ℤ b) *ℤ v)
          ≡ (a +ℤ b) *ℤ A *ℤ (y -ℤ z) +ℤ ((A +ℤ B) *ℤ b -ℤ (a +ℤ b) *ℤ B) *ℤ (z -ℤ v) +ℤ (A +ℤ B) *ℤ (a *ℤ z +ℤ b *ℤ v)
      parts A B a b y z v = same (A ∷ B ∷ a ∷ b ∷ y ∷ z ∷ v ∷ []) (search pol depth 20 fits 9000) tt

      none : (a k : ℤ) → a +ℤ k *ℤ pos 0 ≡ a
      none a k = same (a ∷ k ∷ []) (search pol depth 20 fits 9000) tt

      split : pos A *ℤ weighted t u (j + h) +ℤ pos B *ℤ weighted t u j ≡ pos (c * A) *ℤ (y -ℤ z) +ℤ off *ℤ (z -ℤ v)
      split =
          parts (pos A) (pos B) (pos t.before) (pos t.after) y z v
          ∙ ap (λ (k : ℤ). pos (c * A) *ℤ (y -ℤ z) +ℤ off *ℤ (z -ℤ v) +ℤ pos (A + B) *ℤ k)
          (is.fits at (inside j (omega arith)))
          ∙ none (pos (c * A) *ℤ (y -ℤ z) +ℤ off *ℤ (z -ℤ v)) (pos (A + B))

module _ (x : Axis) (weight : second_weight x ≤ 256) where
  -- ---- the first rate

  -- what one blend of a list is at most, and two
  both-blends : (w : ℕ → ℤ) (i m E : ℕ) → ((j : ℕ) → i ≤ j → j + h x ≤ m → nat_abs (misfit_once x w j) ≤ E)
      → i + delay x ≤ m → nat_abs (misfit x w i) ≤ first_misfit_by x.second_sway E
  both-blends w i m E once q = go x.second_sway q
    where
      twice : (a : ℕ) → a + a ≤ 2 * a
      twice a = omega arith

      go : (u : Option ℕ) → i + (h x + sway_delay u) ≤ m → nat_abs (misfit_by u x w i) ≤ first_misfit_by u E
      go None l = once i (omega arith) (omega arith)
      go (Some d) l =
          le_trans
          (add_holds (misfit_once x w (i + d)) (misfit_once x w i) E E (once (i + d) (omega arith) (omega arith))
          (once i (omega arith) (omega arith)))
          (twice E)

  near_first : (t : TruePole) (n m G D : ℕ) (u : ℕ → ℤ) → SwayOf t m G D u
      → Misfits x n m (first_misfit x t G D) (weighted t u)
  near_first t n m G D u is i l q =
      both-blends (weighted t u) i m _
      (λ j a p. one-blend t m G D u is (256 - second_weight x) (second_weight x) (h x) j p) q

  -- ---- the second rate

  -- A of one number and B of another, both at most e
  mixed : (y z : ℤ) (e : ℕ) → nat_abs y ≤ e → nat_abs z ≤ e → nat_abs (A x *ℤ y +ℤ B x *ℤ z) ≤ 256 * e
  mixed y z e p q =
      le_trans
      (add_holds (A x *ℤ y) (B x *ℤ z) ((256 - second_weight x) * e) (second_weight x * e)
      (mul_holds (A x) y (256 - second_weight x) e (omega arith) p)
      (mul_holds (B x) z (second_weight x) e (omega arith) q))
      (sum (second_weight x) e weight)
    where
      sum : (b c : ℕ) → b ≤ 256 → (256 - b) * c + b * c ≤ 256 * c
      sum b c l = let u : 256 - b + b ≤ 256 = omega arith in
          le_trans (omega (arith, add-mul (256 - b) b c)) (mul-le-mul_right c u)

  near-second : (d : ℕ) (t : TruePole) (n m G D : ℕ) (u : ℕ → ℤ) → x.second_sway ≡ Some d → SwayOf t m G D u
      → Misfits x n m (second_misfit d t G D) (weighted t u)
  near-second d t n m G D u e is i l q =
      let last : second_half_period x ≡ d = ap sway_delay e in
      subst (λ (z : ℤ). nat_abs z ≤ second_misfit d t G D) (sym (second-misfit x d (weighted t u) i e))
      (mixed (pair (i + h x)) (pair i) (measured_misfit 1 1 d t G D)
      (one-blend t m G D u is 1 1 d (i + h x) (omega arith))
      (one-blend t m G D u is 1 1 d i (omega arith)))
    where
      pair : ℕ → ℤ
      pair j = pos 1 *ℤ weighted t u (j + d) +ℤ pos 1 *ℤ weighted t u j

  -- ---- whatever it fits

  near-any : (n m G : ℕ) (w : ℕ → ℤ) → Entries n m G w → Misfits x n m (first_misfit_by x.second_sway (256 * G)) w
  near-any n m G w small i l q =
      both-blends w i m (256 * G)
      (λ j a p. mixed (w (j + h x)) (w j) G (small (j + h x) (omega arith) p) (small j (omega arith) (omega arith))) q

  pub measured-misfits : MeasuredMisfits x
  measured-misfits = record { first = near_first; second = near-second; any = near-any }

-- ---- what is left of such a sway

module _ (most : Axis → ℕ → ℕ) (x : Axis) (weight : second_weight x ≤ 256) (k n : ℕ) (g : CellTable)
    (left : SwayLeft most x k n g) where
  by-misfits : (t : TruePole) (m G D E : ℕ) (u : ℕ → ℤ) → n ≤ m → SwayOf t m G D u → Misfits x n m E (weighted t u)
      → PoleLeft x k n g t m G (most x n * E) u
  by-misfits t m G D E u q is f =
      record {
        exact = subst (λ (z : ℕ). z ≤ most x n * E) (times (λ k. blend (planned_axis n x) k (λ s. s.acceleration)))
            (left.exact m E (weighted t u) q f);
        rounded = subst (λ (z : ℕ). divisor x * z ≤ most x n * E + divisor x * rounding_left n (weights t * G))
            (times (acceleration_cell g k))
            (left.rounded m E (weights t * G) (weighted t u) q f entries);
      }
    where
      times : (a : ℕ → ℤ) → nat_abs (sway a (weighted t u) m n) ≡ weights t * nat_abs (sway a (by_tick t u) m n)
      times a = ap nat_abs (sway-weighted (pos (weights t)) a (by_tick t u) m n)
          ∙ nat_abs-* (pos (weights t)) (sway a (by_tick t u) m n)

      entries : Entries n m (weights t * G) (weighted t u)
      entries i l p =
          mul_holds (pos (weights t)) (by_tick t u i) (weights t) G (omega arith)
          (is.small (t.entries * i) (omega (arith, inside t m G D u is i p)))

  pub measured-left : MeasuredLeft most x k n g
  measured-left =
      record {
        first = λ t m G D u q is. by-misfits t m G D (first_misfit x t G D) u q is (near_first x weight t n m G D u is);
        second = λ d t m G D u q e is. by-misfits t m G D (second_misfit d t G D) u q is
            (near-second x weight d t n m G D u e is);
      }
