-- The sway left of an axis: in a list with no misfit above E at most variation × E before rounding,
-- and as rounded N × G more. A swing list of either rate has no misfit, so that of its sway 0 is
-- left before rounding, and at most N × G as rounded.
use Prim.Native.Nat.{ℕ, zero, suc, ◌+◌, ◌-◌, ◌*◌, ◌≤◌, ◌<◌}
use mathlib.Core.Path.{◌≡◌, refl, sym, ap, ap₂, ◌∙◌, subst}
use mathlib.Core.Bool.{Bool, true, false}
use mathlib.Core.List.{[], ◌∷◌}
use native.Mathlib.Omega.{arith}
use native.Mathlib.Nat.{zero-add, le_trans, le_antisymm, le_of_mul-le-mul_left}
use lib.Dec.{ltb}
use lib.IntN.{ℤ, pos, nat_abs, ◌+ℤ◌, ◌-ℤ◌, ◌*ℤ◌, +ℤ_invr}
use Rattle.whole.specs.Integers.{nearest_quotient}
use Rattle.whole.proofs.Bounds.{mul_holds}
use Rattle.whole.proofs.Laws.{nat_abs-*, nat_abs-zero}
use Rattle.whole.proofs.Ring.{pol, same}
use Rattle.whole.proofs.Rounding.{nearest-half}
use Rattle.model.specs.declared.Axis.{Axis}
use Rattle.std.specs.Prelude.{Option, None, Some}
use Rattle.model.specs.planning.Quantities.{half_period, second_weight, sway_delay, second_half_period, as_moving}
use Rattle.model.specs.planning.Quantities.{finer}
use Rattle.model.specs.planning.Motion.{Tick, earlier, landing_tick, landing_acceleration}
use Rattle.model.specs.planning.Rows.{planned_axis, tick_at, tick_back, blend, divisor}
use Rattle.model.specs.planning.Refusals.{Plannable}
use Rattle.theorems.proofs.tables.TwoBlends.{both, both_divisor, both_some, both_is, times_by, times, times-some}
use Rattle.theorems.proofs.tables.TwoBlends.{weights-times, divisor-some}
use Rattle.theorems.proofs.jobs.PlannableAxis as R
use Rattle.model.specs.planning.Demand.{Swing, first, second, Bounded, sway}
use Rattle.theorems.specs.Misfit.{misfit_once, misfit_by, misfit, Misfits, Entries, variation}
use Rattle.theorems.specs.Misfit.{planned_variation, rounding_left}
use Rattle.theorems.proofs.tables.Landing.{exact-acceleration, lands-acceleration}
use Rattle.theorems.proofs.motions.PlannedTarget.{tick-landed}
use Rattle.theorems.proofs.tables.SwayExact.{sway-same, sway-times, back, back_none, filtered, filtered-twice}
use Rattle.theorems.proofs.tables.SwayExact.{filtered-steady, paired, smoothed, sway-exact, sway-small}
use Rattle.theorems.proofs.tables.SwayRounded.{sway-rounded}
use Rattle.theorems.proofs.tables.MeasuredMisfit.{second-misfit}

module _ (x : Axis) (n : ℕ) (r : Plannable x n) where
  abbrev h : ℕ
  h = half_period x

  abbrev s : ℕ
  s = second_half_period x

  abbrev T : ℕ
  T = landing_tick x n

  abbrev A : ℤ
  A = pos (256 - second_weight x)

  abbrev B : ℤ
  B = pos (second_weight x)

  -- the exact acceleration of row k times the divisor, and the planned one of tick k
  abbrev exact : ℕ → ℤ
  exact k = both (planned_axis n x) k (λ s. s.acceleration)

  α : ℕ → ℤ
  α k = (tick_at (planned_axis n x) k).acceleration

  -- before tick 0 the planned acceleration is 0
  back-acceleration : (d k : ℕ) → (tick_back (planned_axis n x) k d).acceleration ≡ back α d k
  unfolding α
  back-acceleration d k = go (ltb k d)
    where
      go : (b : Bool)
          → (elim b as
          (λ y. Tick) [ true ↦ earlier x (d - k) | false ↦ tick_at (planned_axis n x) (k - d) ]).acceleration
          ≡ (elim b as (λ y. ℤ) [ true ↦ pos 0 | false ↦ (tick_at (planned_axis n x) (k - d)).acceleration ])
      go true = refl
      go false = refl

  α-landed : (j : ℕ) → j ≤ h + s → α (T + j) ≡ landing_acceleration x n
  unfolding α
  α-landed j q = ap (λ (s : Tick). s.acceleration) (tick-landed x n r j q)

  α-steady : (k : ℕ) → T ≤ k → k < T + (h + s) → α (suc k) ≡ α k
  α-steady k a b = ap α later ∙ α-landed (suc k - T) (omega arith) ∙ sym (α-landed (k - T) (omega arith)) ∙ ap α now
    where
      later : suc k ≡ T + (suc k - T)
      later = omega arith

      now : T + (k - T) ≡ k
      now = omega arith

  arrival : T + (h + s) ≡ n
  arrival = omega (arith, R.after x n r)

  -- ---- the two blends, in either order

  -- row k with the delays written out
  written : (k : ℕ) → exact k ≡ A *ℤ α k +ℤ B *ℤ back α h k +ℤ (A *ℤ back α s k +ℤ B *ℤ back α (s + h) k)
  written k =
      ap₂ (λ (y z : ℤ). y +ℤ z)
      (ap₂ (λ (y z : ℤ). A *ℤ y +ℤ B *ℤ z) (back-acceleration 0 k ∙ back_none α k)
      (back-acceleration (0 + h) k ∙ ap (λ (d : ℕ). back α d k) (zero-add h)))
      (ap₂ (λ (y z : ℤ). A *ℤ y +ℤ B *ℤ z) (back-acceleration s k) (back-acceleration (s + h) k))

  first-last : (k : ℕ) → exact k ≡ filtered A B (filtered (pos 1) (pos 1) α s) h k
  first-last k = written k ∙ paired A B (α k) (back α h k) (back α s k) (back α (s + h) k)
      ∙ sym (filtered-twice A B (pos 1) (pos 1) α s h k)

  -- ---- the sway of the rows is that of the planned accelerations in the list of the misfits

  -- the list filtered as the rows are
  misfits : (ℕ → ℤ) → ℕ → ℤ
  misfits w = smoothed (pos 1) (pos 1) (smoothed A B w h) s

  planned-sway : (m : ℕ) (w : ℕ → ℤ) → sway exact w m n ≡ sway α (misfits w) m T
  unfolding misfits
  planned-sway m w =
      sway-same exact (filtered A B once h) w m n (λ k l. first-last k)
      ∙ ap (sway (filtered A B once h) w m) last
      ∙ sway-exact A B once w h m (T + s)
      (λ k p q. filtered-steady (pos 1) (pos 1) α s T n
      (λ k a b. α-steady k a (omega (arith, arrival))) k p (omega (arith, arrival)))
      ∙ sway-exact (pos 1) (pos 1) α (smoothed A B w h) s m T (λ k p q. α-steady k p (omega arith))
    where
      once : ℕ → ℤ
      once = filtered (pos 1) (pos 1) α s

      last : n ≡ T + s + h
      last = omega (arith, arrival)

  misfits-are : (w : ℕ → ℤ) (i j : ℕ) → i ≡ j + (h + s) → misfits w i ≡ pos (times x) *ℤ misfit x w j
  unfolding misfits
  misfits-are w i j e = go x.second_sway e
    where
      one : (k l : ℕ) → k ≡ l + h → smoothed A B w h k ≡ misfit_once x w l
      one k l e = let f : k - h ≡ l = omega arith in ap₂ (λ (i j : ℕ). A *ℤ w i +ℤ B *ℤ w j) e f

      twice : (z : ℤ) → pos 1 *ℤ z +ℤ pos 1 *ℤ z ≡ pos 2 *ℤ z
      twice z = same (z ∷ []) (search pol depth 20 fits 9000) tt

      each : (y z : ℤ) → pos 1 *ℤ y +ℤ pos 1 *ℤ z ≡ pos 1 *ℤ (y +ℤ z)
      each y z = same (y ∷ z ∷ []) (search pol depth 20 fits 9000) tt

      go : (u : Option ℕ) → i ≡ j + (h + sway_delay u)
          → smoothed (pos 1) (pos 1) (smoothed A B w h) (sway_delay u) i ≡ pos (times_by u) *ℤ misfit_by u x w j
      go None e =
          ap₂ (λ (y z : ℤ). pos 1 *ℤ y +ℤ pos 1 *ℤ z) (one i j (omega arith)) (one (i - 0) j (omega arith))
          ∙ twice (misfit_once x w j)
      go (Some d) e =
          ap₂ (λ (y z : ℤ). pos 1 *ℤ y +ℤ pos 1 *ℤ z) (one i (j + d) (omega arith)) (one (i - d) j (omega arith))
          ∙ each (misfit_once x w (j + d)) (misfit_once x w j)

  -- ---- before rounding

  both_left : (m E : ℕ) (w : ℕ → ℤ) → n ≤ m → Misfits x n m E w
      → nat_abs (sway exact w m n) ≤ times x * (planned_variation x n * E)
  unfolding α
  both_left m E w q f =
      subst (λ (z : ℤ). nat_abs z ≤ times x * (planned_variation x n * E)) (sym (planned-sway m w))
      (le_trans (sway-small α (misfits w) m T (times x * E) small) (omega (arith, sorted (variation α T) (times x) E)))
    where
      sorted : (a b c : ℕ) → a * (b * c) ≤ b * (a * c)
      sorted a b c = omega arith

      small : (i : ℕ) → m ≤ i + T → i ≤ m → nat_abs (misfits w i) ≤ times x * E
      small i a b =
          subst (λ (z : ℤ). nat_abs z ≤ times x * E) (sym (misfits-are w i (i - (h + s)) (omega (arith, arrival))))
          (mul_holds (pos (times x)) (misfit x w (i - (h + s))) (times x) E (omega arith)
          (f (i - (h + s)) (omega (arith, arrival)) (omega (arith, arrival))))

  -- the blend is a part of the two
  pub left-exact : (m E : ℕ) (w : ℕ → ℤ) → n ≤ m → Misfits x n m E w
      → nat_abs (sway (λ k. blend (planned_axis n x) k (λ s. s.acceleration)) w m n) ≤ planned_variation x n * E
  left-exact m E w q f =
      le_of_mul-le-mul_left {k = times x}
      (subst (λ (k : ℕ). k ≤ times x * (planned_variation x n * E)) part (both_left m E w q f)) (times-some x)
    where
      part : nat_abs (sway exact w m n)
          ≡ times x * nat_abs (sway (λ k. blend (planned_axis n x) k (λ s. s.acceleration)) w m n)
      part =
          ap nat_abs
          (sway-same exact (λ k. pos (times x) *ℤ blend (planned_axis n x) k (λ s. s.acceleration)) w m n
          (λ k l. both_is (planned_axis n x) k (λ s. s.acceleration))
          ∙ sway-times (pos (times x)) (λ k. blend (planned_axis n x) k (λ s. s.acceleration)) w m n)
          ∙ nat_abs-* (pos (times x)) (sway (λ k. blend (planned_axis n x) k (λ s. s.acceleration)) w m n)

  last-whole : pos (both_divisor x) *ℤ nearest_quotient (exact n) (both_divisor x) -ℤ exact n ≡ pos 0
  last-whole =
      ap₂ (λ (y z : ℤ). pos (both_divisor x) *ℤ y -ℤ z) (lands-acceleration x n r) (exact-acceleration x n r)
      ∙ +ℤ_invr (pos (both_divisor x) *ℤ (pos 256 *ℤ (as_moving x.target n).acceleration))

  -- ---- as rounded

  pub left-rounded : (m E G : ℕ) (w : ℕ → ℤ) → n ≤ m → Misfits x n m E w → Entries n m G w
      → divisor x * nat_abs (sway (λ k. nearest_quotient (exact k) (both_divisor x)) w m n)
      ≤ planned_variation x n * E + divisor x * rounding_left n G
  left-rounded m E G w q f b =
      omega (
        arith,
        le_of_mul-le-mul_left {k = times x}
            (shared (times x) (divisor x) (both_divisor x) (nat_abs (sway cell w m n)) (planned_variation x n * E)
            (n * G)
            (weights-times x.second_sway (finer x))
            (go n (omega arith) (omega (arith, R.after x n r)) (both_left m E w q f) last-whole))
            (times-some x),
      )
    where
      cell : ℕ → ℤ
      cell k = nearest_quotient (exact k) (both_divisor x)

      go : (i : ℕ) → i ≤ n → 0 < i → nat_abs (sway exact w m i) ≤ times x * (planned_variation x n * E)
          → pos (both_divisor x) *ℤ cell i -ℤ exact i ≡ pos 0
          → both_divisor x * nat_abs (sway cell w m i)
          ≤ times x * (planned_variation x n * E) + both_divisor x * (i * G)
      go zero l z e f = absurd (omega arith)
      go (suc i) l z e f =
          sway-rounded (both_divisor x) (256 * finer x) (omega arith) exact cell w n m G
          (λ k. nearest-half (exact k) (both_divisor x) (both_some x)) b i l f (times x * (planned_variation x n * E)) e

      shared : (t d b c u v : ℕ) → t * d ≡ b → b * c ≤ t * u + b * v → t * (d * c) ≤ t * (u + d * v)
      shared t d b c u v e q =
          let p : t * d * c ≤ t * u + t * d * v = subst (λ (k : ℕ). k * c ≤ t * u + k * v) (sym e) q in omega arith

  -- ---- a swing list has no misfit

  none_left : (m : ℕ) (w : ℕ → ℤ) → Swing x m w → Misfits x n m 0 w
  none_left m w g i l q = let e : misfit x w i ≡ pos 0 = go g in omega (arith, ap nat_abs e)
    where
      by_first : (u : Option ℕ) → i + (h + sway_delay u) ≤ m
          → ((j : ℕ) → j + h ≤ m → misfit_once x w j ≡ pos 0) → misfit_by u x w i ≡ pos 0
      by_first None q fits = fits i (omega arith)
      by_first (Some d) q fits = ap₂ (λ (y z : ℤ). y +ℤ z) (fits (i + d) (omega arith)) (fits i (omega arith))

      none : (A B : ℤ) → A *ℤ pos 0 +ℤ B *ℤ pos 0 ≡ pos 0
      none A B = same (A ∷ B ∷ []) (search pol depth 20 fits 9000) tt

      go : Swing x m w → misfit x w i ≡ pos 0
      go (first some fits) = by_first x.second_sway q fits
      go (second d e fits) =
          let is : s ≡ d = ap sway_delay e in
          second-misfit x d w i e
          ∙ ap₂ (λ (y z : ℤ). A *ℤ y +ℤ B *ℤ z) (fits (i + h) (omega arith)) (fits i (omega arith))
          ∙ none A B

  pub cancelled-exact : (m : ℕ) (w : ℕ → ℤ) → n ≤ m → Swing x m w
      → sway (λ k. blend (planned_axis n x) k (λ s. s.acceleration)) w m n ≡ pos 0
  cancelled-exact m w q g =
      nat_abs-zero (sway (λ k. blend (planned_axis n x) k (λ s. s.acceleration)) w m n)
      (le_antisymm (le_trans (left-exact m 0 w q (none_left m w g)) (omega arith)) (omega arith))

  pub cancelled-rounded : (m G : ℕ) (w : ℕ → ℤ) → n ≤ m → Swing x m w → Bounded m G w
      → nat_abs (sway (λ k. nearest_quotient (exact k) (both_divisor x)) w m n) ≤ n * G
  cancelled-rounded m G w q g b =
      le_of_mul-le-mul_left {k = divisor x}
      (le_trans (left-rounded m 0 G w q (none_left m w g) (λ i l p. b i p)) (omega arith)) (divisor-some x)
