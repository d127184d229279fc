-- The list of rule 5: raising the first r ticks that rise adds r to the sum and keeps the limits.
use Prim.Native.Nat.{ℕ, zero, suc, ◌+◌, ◌-◌, ◌≤◌, ◌<◌}
use mathlib.Core.Path.{◌≡◌, refl, sym, ap, ◌∙◌, subst, subst₂}
use mathlib.Core.Bool.{Bool, true, false, not, ◌&&◌}
use mathlib.Core.List.{List, [], ◌∷◌, ◌++◌}
use mathlib.Core.Logic.{◌⊎◌, inl, inr, ⊎_elim}
use native.Mathlib.Omega.{arith}
use lib.Dec.{T, ltb, ltb→lt, nltb→le}
use lib.ListN.{get_or, length}
use lib.IntN.{ℤ, pos, nat_abs, ◌+ℤ◌, ◌-ℤ◌, +ℤ_assoc}
use lib.Signed.{lt_z, lt_z_yes, lt_z_no, ◌≤ℤ◌, ◌<ℤ◌, ≤ℤ_refl}
use Rattle.whole.specs.Integers.{sum_to}
use Rattle.whole.specs.Ranges.{Within}
use Rattle.whole.proofs.Tests.{by_bool, both}
use Rattle.whole.proofs.Differences.{whole, all₂, all₃, all₄}
use Rattle.whole.proofs.Laws.{≤ℤ-antisym, ≤ℤ-next, +ℤ-mono}
use Rattle.whole.proofs.Order.{clamp-mono, clamp-next}
use Rattle.whole.proofs.Sums.{sum_first}
use Rattle.model.specs.planning.Leg.{Leg, upper, lower, clamped, raised}
use Rattle.theorems.proofs.legs.Envelopes.{Near, near_next, near-sym, near-refl, Joined, clamped-near}
use Rattle.theorems.proofs.legs.Envelopes.{clamped-within, clamped-start, clamped-end}

-- ---- a list of velocities between two ends, as a function of the tick

abbrev pub along : ℤ → List ℤ → ℤ → ℕ → ℤ
along v xs e k = get_or (v ∷ (xs ++ (e ∷ []))) k (pos 0)

abbrev pub total : List ℤ → ℤ
total [] = pos 0
total (x ∷ xs) = x +ℤ total xs

-- the entries within s, and the changes within A
abbrev pub Kept : ℕ → ℕ → ℤ → List ℤ → ℤ → Type 0
Kept s A v [] e = Within s v × (Within s e × Near A v e)
Kept s A v (x ∷ xs) e = Within s v × (Near A v x × Kept s A x xs e)

pub along-end : (v : ℤ) (xs : List ℤ) (e : ℤ) → along v xs e (suc (length xs)) ≡ e
along-end v [] e = refl
along-end v (x ∷ xs) e = along-end x xs e

pub along-speed : (s A : ℕ) (v : ℤ) (xs : List ℤ) (e : ℤ) → Kept s A v xs e → (k : ℕ)
    → k ≤ suc (length xs) → nat_abs (along v xs e k) ≤ s
along-speed s A v [] e f zero h = f.0.within
along-speed s A v [] e f (suc zero) h = f.1.0.within
along-speed s A v [] e f (suc (suc k)) h = absurd (omega arith)
along-speed s A v (x ∷ xs) e f zero h = f.0.within
along-speed s A v (x ∷ xs) e f (suc k) h = along-speed s A x xs e f.1.1 k (omega arith)

pub along-change : (s A : ℕ) (v : ℤ) (xs : List ℤ) (e : ℤ) → Kept s A v xs e
    → (k : ℕ) → k < suc (length xs) → nat_abs (along v xs e (suc k) -ℤ along v xs e k) ≤ A
along-change s A v [] e f zero h = f.1.1.apart.within
along-change s A v [] e f (suc k) h = absurd (omega arith)
along-change s A v (x ∷ xs) e f zero h = f.1.0.apart.within
along-change s A v (x ∷ xs) e f (suc k) h = along-change s A x xs e f.1.1 k (omega arith)

pub along-sum : (v : ℤ) (xs : List ℤ) (e : ℤ) → sum_to (along v xs e) (length xs) ≡ total xs
along-sum v [] e = refl
along-sum v (x ∷ xs) e = sum_first (along v (x ∷ xs) e) (length xs) ∙ ap (λ (z : ℤ). x +ℤ z) (along-sum x xs e)

-- ---- a sum from its first tick on: f k + .. + f (k + n − 1)

abbrev sum_from : (ℕ → ℤ) → ℕ → ℕ → ℤ
sum_from f k zero = pos 0
sum_from f k (suc n) = f k +ℤ sum_from f (suc k) n

sum_from-next : (f : ℕ → ℤ) (k n : ℕ) → sum_from (λ i. f (suc i)) k n ≡ sum_from f (suc k) n
sum_from-next f k zero = refl
sum_from-next f k (suc n) = ap (λ (z : ℤ). f (suc k) +ℤ z) (sum_from-next f (suc k) n)

sum_to-from : (f : ℕ → ℤ) (n : ℕ) → sum_to f n ≡ sum_from f 1 n
sum_to-from f zero = refl
sum_to-from f (suc n) = sum_first f n ∙ ap (λ (z : ℤ). f 1 +ℤ z) (sum_to-from (λ k. f (suc k)) n ∙ sum_from-next f 1 n)

-- ---- the ticks raised

-- a tick is not raised: none is left to raise, or its velocity would not rise
not-raised : (r : ℕ) (x y : ℤ) → T (not (ltb 0 r && lt_z x y)) → (r ≡ 0) ⊎ (y ≤ℤ x)
not-raised r x y t = go (ltb 0 r) (lt_z x y) t (nltb→le 0 r) lt_z_no
  where
    go : (a b : Bool) → T (not (a && b)) → (T (not a) → r ≤ 0) → (T (not b) → y ≤ℤ x) → (r ≡ 0) ⊎ (y ≤ℤ x)
    go true true t p q = absurd t
    go true false t p q = inr (q tt)
    go false b t p q = inl (let h : r ≤ 0 = p tt in omega arith)

-- v and u are the velocities of a tick at c and at c + 1, s and z the sums of the
-- later ones, r is left to raise
one_less : (r : ℕ) (v u s z : ℤ) → 0 < r → u ≤ℤ (v +ℤ pos 1) → (v +ℤ s +ℤ pos r) ≤ℤ (u +ℤ z) → (s +ℤ pos (r - 1)) ≤ℤ z
one_less r = all₄ _ (λ a b c d e f g h. simp whole (omega arith))

one-raised : (r : ℕ) (v s t : ℤ) → 0 < r → t ≡ s +ℤ pos (r - 1) → v +ℤ pos 1 +ℤ t ≡ v +ℤ s +ℤ pos r
one-raised r = all₃ _ (λ a b c d e f. simp whole (omega arith))

none-less : (r : ℕ) (v u s z : ℤ) → u ≤ℤ v → (v +ℤ s +ℤ pos r) ≤ℤ (u +ℤ z) → (s +ℤ pos r) ≤ℤ z
none-less r = all₄ _ (λ a b c d e f g h. simp whole (omega arith))

none_left : (r : ℕ) (s z : ℤ) → r ≡ 0 → s ≤ℤ z → (s +ℤ pos r) ≤ℤ z
none_left r = all₂ _ (λ a b c d. simp whole (omega arith))

module _ (g : Leg) (c : ℤ) where
  -- the velocities at c and at c + 1
  low : ℕ → ℤ
  low k = clamped g c k

  high : ℕ → ℤ
  high k = clamped g (c +ℤ pos 1) k

  low-high : (k : ℕ) → low k ≤ℤ high k
  unfolding low high
  low-high k = clamp-mono (lower g k) (upper g k) c (c +ℤ pos 1) (≤ℤ-next c)

  high-low : (k : ℕ) → high k ≤ℤ (low k +ℤ pos 1)
  unfolding low high
  high-low k = clamp-next (lower g k) (upper g k) c

  sum-low-high : (k n : ℕ) → sum_from low k n ≤ℤ sum_from high k n
  sum-low-high k zero = ≤ℤ_refl (pos 0)
  sum-low-high k (suc n) = +ℤ-mono (low-high k) (sum-low-high (suc k) n)

  -- where r more does not exceed the sum at c + 1, the list raised has the sum at c and r more
  total-is : (n k r : ℕ) → (sum_from low k n +ℤ pos r) ≤ℤ sum_from high k n
      → total (raised g c n k r) ≡ sum_from low k n +ℤ pos r
  unfolding low high
  total-is zero k r h = none r h
    where
      none : (r : ℕ) → (pos 0 +ℤ pos r) ≤ℤ pos 0 → pos 0 ≡ pos 0 +ℤ pos r
      none r = simp whole (omega arith)
  total-is (suc n) k r h =
      by_bool (λ (l : List ℤ). total l ≡ sum_from low k (suc n) +ℤ pos r) (ltb 0 r && lt_z (low k) (high k)) _ _
      (λ t.
      let p : 0 < r = ltb→lt 0 r (both (ltb 0 r) (lt_z (low k) (high k)) t).0 in
      one-raised r (low k) (sum_from low (suc k) n) (total (raised g c n (suc k) (r - 1))) p
      (total-is n (suc k) (r - 1)
      (one_less r (low k) (high k) (sum_from low (suc k) n) (sum_from high (suc k) n) p (high-low k) h)))
      (λ t.
      ap (λ (z : ℤ). low k +ℤ z) (total-is n (suc k) r (rest (not-raised r (low k) (high k) t)))
      ∙ sym (+ℤ_assoc (low k) (sum_from low (suc k) n) (pos r)))
    where
      rest : (r ≡ 0) ⊎ (high k ≤ℤ low k) → (sum_from low (suc k) n +ℤ pos r) ≤ℤ sum_from high (suc k) n
      rest = ⊎_elim
          (λ e. none_left r (sum_from low (suc k) n) (sum_from high (suc k) n) e (sum-low-high (suc k) n))
          (λ q. none-less r (low k) (high k) (sum_from low (suc k) n) (sum_from high (suc k) n) q h)

  pub raised-total : (n r : ℕ) → (sum_to (clamped g c) n +ℤ pos r) ≤ℤ sum_to (clamped g (c +ℤ pos 1)) n
      → total (raised g c n 1 r) ≡ sum_to (clamped g c) n +ℤ pos r
  unfolding low high
  raised-total n r h =
      total-is n 1 r (subst₂ (λ (x y : ℤ). (x +ℤ pos r) ≤ℤ y) (sum_to-from low n) (sum_to-from high n) h)
      ∙ ap (λ (z : ℤ). z +ℤ pos r) (sym (sum_to-from low n))

  pub raised-length : (n k r : ℕ) → length (raised g c n k r) ≡ n
  raised-length zero k r = refl
  raised-length (suc n) k r =
      by_bool (λ (l : List ℤ). length l ≡ suc n) (ltb 0 r && lt_z (clamped g c k) (clamped g (c +ℤ pos 1) k)) _ _
      (λ t. ap suc (raised-length n (suc k) (r - 1)))
      (λ t. ap suc (raised-length n (suc k) r))

  -- what may stand before a list that raises r more: a velocity at c + 1, or
  -- one at c where none is left to raise
  Before : ℕ → ℕ → ℤ → Type 0
  Before k r v = (v ≡ high k) ⊎ ((r ≡ 0) × (v ≡ low k))

  module _ (j : Joined g) (hA : 0 < g.acceleration_limit) where
    to_low : (k r : ℕ) (v : ℤ) → k < g.ticks → Before k r v → Near g.acceleration_limit v (low (suc k))
    unfolding low high Before
    to_low k r v h (inl e) = rw e (clamped-near g (c +ℤ pos 1) c k h (near-sym (near_next g.acceleration_limit c hA)))
    to_low k r v h (inr e) = rw e.1 (clamped-near g c c k h (near-refl g.acceleration_limit c))

    to_high : (k r : ℕ) (v : ℤ) → k < g.ticks → 0 < r → Before k r v → Near g.acceleration_limit v (high (suc k))
    unfolding low high Before
    to_high k r v h p (inl e) =
        rw e (clamped-near g (c +ℤ pos 1) (c +ℤ pos 1) k h (near-refl g.acceleration_limit (c +ℤ pos 1)))
    to_high k r v h p (inr e) = let z : r ≡ 0 = e.0 in absurd (omega arith)

    unraised : (k r : ℕ) → (r ≡ 0) ⊎ (high k ≤ℤ low k) → Before k r (low k)
    unfolding Before
    unraised k r (inl e) = inr (e, refl)
    unraised k r (inr h) = inl (≤ℤ-antisym (low-high k) h)

    low-within : (k : ℕ) → Within g.speed_limit (low k)
    unfolding low
    low-within k = clamped-within g j.start j.end c k

    high-within : (k : ℕ) → Within g.speed_limit (high k)
    unfolding high
    high-within k = clamped-within g j.start j.end (c +ℤ pos 1) k

    kept : (n k r : ℕ) (v : ℤ) → suc k + n ≡ g.ticks → Within g.speed_limit v → Before k r v
        → Kept g.speed_limit g.acceleration_limit v (raised g c n (suc k) r) g.end
    unfolding low high Before
    kept zero k r v h w b =
        (w, (record { within = j.end }, subst (Near g.acceleration_limit v) last (to_low k r v (omega arith) b)))
      where
        last : low (suc k) ≡ g.end
        last = ap low (plain k g.ticks h) ∙ clamped-end g j c
          where
            plain : (k t : ℕ) → suc k + 0 ≡ t → suc k ≡ t
            plain k t e = omega arith
    kept (suc n) k r v h w b =
        by_bool (λ (l : List ℤ). Kept g.speed_limit g.acceleration_limit v l g.end)
        (ltb 0 r && lt_z (low (suc k)) (high (suc k))) _ _
        (λ t.
        let p : T (ltb 0 r) × T (lt_z (low (suc k)) (high (suc k))) =
        both (ltb 0 r) (lt_z (low (suc k)) (high (suc k))) t in
        let e : low (suc k) +ℤ pos 1 ≡ high (suc k) =
        one-above (low (suc k)) (high (suc k)) (lt_z_yes p.1) (high-low (suc k)) in (
          w,
          (
            subst (Near g.acceleration_limit v) (sym e) (to_high k r v (omega arith) (ltb→lt 0 r p.0) b),
            kept n (suc k) (r - 1) (low (suc k) +ℤ pos 1) (omega arith)
                (subst (Within g.speed_limit) (sym e) (high-within (suc k))) (inl e),
          ),
        ))
        (λ t. (
          w,
          (
            to_low k r v (omega arith) b,
            kept n (suc k) r (low (suc k)) (omega arith) (low-within (suc k))
                (unraised (suc k) r (not-raised r (low (suc k)) (high (suc k)) t)),
          ),
        ))
      where
        one-above : (x y : ℤ) → x <ℤ y → y ≤ℤ (x +ℤ pos 1) → x +ℤ pos 1 ≡ y
        one-above = all₂ _ (λ a b c d. simp whole (omega arith))

    -- the list raised from tick 1 on, between the ends
    pub raised-kept : (n r : ℕ) → suc n ≡ g.ticks
        → Kept g.speed_limit g.acceleration_limit g.start (raised g c n 1 r) g.end
    unfolding high Before
    raised-kept n r h =
        kept n 0 r g.start (omega arith) (record { within = j.start }) (inl (sym (clamped-start g j (c +ℤ pos 1))))
