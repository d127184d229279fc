-- A leg whose required sum is whole can be made on a grid f times finer exactly where it
-- can be made on its own: a list of the coarse grid, times f, is one of the finer; and
-- where a finer list exists, the required sum lies between the sums of the finer envelopes,
-- which are f times the coarse ones.
use Prim.Native.Nat.{ℕ, zero, suc, ◌-◌, ◌*◌, ◌%◌, ◌^◌, ◌≤◌, ◌<◌}
use mathlib.Core.Path.{◌≡◌, sym, ap, ap₂, ◌∙◌, subst, subst₂}
use mathlib.Core.Bool.{Bool, true, false, cond}
use mathlib.Core.List.{[], ◌∷◌}
use mathlib.Core.Logic.{◌↔◌}
use native.Mathlib.Omega.{arith}
use native.Mathlib.Nat.{le_refl, mul_assoc, le_of_mul-le-mul_left}
use lib.Dec.{T, le→leb, eqb→eq}
use lib.IntN.{ℤ, pos, neg_ℤ, nat_abs, ◌+ℤ◌, ◌-ℤ◌, ◌*ℤ◌}
use lib.Signed.{le_z, shr_z, ◌≤ℤ◌}
use Rattle.whole.specs.Integers.{least, greatest, sum_to}
use Rattle.whole.proofs.Differences.{whole, all₂}
use Rattle.whole.proofs.Laws.{*ℤ-+ℤ, *ℤ-cancel, ≤ℤ-trans, nat_abs-*}
use Rattle.whole.proofs.Bounds.{mul_holds}
use Rattle.whole.proofs.Ring.{pol, same}
use Rattle.whole.proofs.Rounding.{half_twice, twice_half}
use Rattle.whole.proofs.Sums.{sum_mono, sum-times}
use Rattle.model.specs.planning.Leg.{Leg, Meets, Feasible, travelled, upper, lower, twice_required, required}
use Rattle.model.specs.planning.Leg.{sum_is_whole, tests, feasible}
use Rattle.theorems.specs.Finer.{finer_leg}
use Rattle.theorems.proofs.legs.Envelopes.{Joined}
use Rattle.theorems.proofs.legs.FeasibleTests.{every, feasible-joined, feasible-above, feasible-below}
use Rattle.theorems.proofs.legs.FeasibleIsExistence.{feasible-is, meets-feasible}

-- ---- a coarse list, times f

travelled-times : (f : ℤ) (w : ℕ → ℤ) (n : ℕ) → travelled (λ k. f *ℤ w k) n ≡ f *ℤ travelled w n
travelled-times f w zero = same (f ∷ []) (search pol depth 20 fits 9000) tt
travelled-times f w (suc n) =
    ap (λ (z : ℤ). z +ℤ (pos 2 *ℤ (f *ℤ w n) +ℤ (f *ℤ w (suc n) -ℤ f *ℤ w n))) (travelled-times f w n)
    ∙ same (f ∷ w n ∷ w (suc n) ∷ travelled w n ∷ []) (search pol depth 20 fits 9000) tt

apart-times : (f a b : ℤ) → f *ℤ (a -ℤ b) ≡ f *ℤ a -ℤ f *ℤ b
apart-times f a b = same (f ∷ a ∷ b ∷ []) (search pol depth 20 fits 9000) tt

-- a size in steps f times finer
pub size-times : (f l : ℕ) (z : ℤ) → 1 ≤ f → (nat_abs (pos f *ℤ z) ≤ f * l) ↔ (nat_abs z ≤ l)
size-times f l z hf = (
  λ h. le_of_mul-le-mul_left (subst (λ (n : ℕ). n ≤ f * l) (nat_abs-* (pos f) z) h) hf,
  λ h. mul_holds (pos f) z f l (le_refl f) h,
)

coarse-meets : (f : ℕ) (g : Leg) (δ : ℤ) (w : ℕ → ℤ) → 1 ≤ f → Meets g δ w
    → Meets (finer_leg f g) (pos f *ℤ δ) (λ k. pos f *ℤ w k)
coarse-meets f g δ w hf m =
    record {
      starts = ap (λ (z : ℤ). pos f *ℤ z) m.starts;
      ends = ap (λ (z : ℤ). pos f *ℤ z) m.ends;
      speeds = λ k h. (size-times f g.speed_limit (w k) hf).1 (m.speeds k h);
      changes = λ k h.
          subst (λ (z : ℤ). nat_abs z ≤ f * g.acceleration_limit) (apart-times (pos f) (w (suc k)) (w k))
          ((size-times f g.acceleration_limit (w (suc k) -ℤ w k) hf).1 (m.changes k h));
      travels = travelled-times (pos f) w g.ticks ∙ ap (λ (z : ℤ). pos f *ℤ z) m.travels;
    }

-- ---- a finer list: its envelopes are f times the coarse ones, or nearer to 0

below-least : (f z x y : ℤ) → z ≤ℤ (f *ℤ x) → z ≤ℤ (f *ℤ y) → z ≤ℤ (f *ℤ least x y)
below-least f z x y h k = go (le_z x y)
  where
    go : (b : Bool) → z ≤ℤ (f *ℤ cond b x y)
    go true = h
    go false = k

above-greatest : (f z x y : ℤ) → (f *ℤ x) ≤ℤ z → (f *ℤ y) ≤ℤ z → (f *ℤ greatest x y) ≤ℤ z
above-greatest f z x y h k = go (le_z x y)
  where
    go : (b : Bool) → (f *ℤ cond b y x) ≤ℤ z
    go true = k
    go false = h

least-left : (x y : ℤ) → least x y ≤ℤ x
least-left = all₂ _ (λ a b c d. simp whole (omega arith))

least-right : (x y : ℤ) → least x y ≤ℤ y
least-right = all₂ _ (λ a b c d. simp whole (omega arith))

greatest-left : (x y : ℤ) → x ≤ℤ greatest x y
greatest-left = all₂ _ (λ a b c d. simp whole (omega arith))

greatest-right : (x y : ℤ) → y ≤ℤ greatest x y
greatest-right = all₂ _ (λ a b c d. simp whole (omega arith))

-- the least of two, times f, is at least the least of both times f
least-times : (f x y : ℤ) → least (f *ℤ x) (f *ℤ y) ≤ℤ (f *ℤ least x y)
least-times f x y =
    below-least f (least (f *ℤ x) (f *ℤ y)) x y (least-left (f *ℤ x) (f *ℤ y)) (least-right (f *ℤ x) (f *ℤ y))

greatest-times : (f x y : ℤ) → (f *ℤ greatest x y) ≤ℤ greatest (f *ℤ x) (f *ℤ y)
greatest-times f x y = above-greatest f (greatest (f *ℤ x) (f *ℤ y)) x y (greatest-left (f *ℤ x) (f *ℤ y))
    (greatest-right (f *ℤ x) (f *ℤ y))

least-times-3 : (f x y z : ℤ) → least (f *ℤ x) (least (f *ℤ y) (f *ℤ z)) ≤ℤ (f *ℤ least x (least y z))
least-times-3 f x y z =
    below-least f (least (f *ℤ x) u) x (least y z) (least-left (f *ℤ x) u)
    (≤ℤ-trans (least-right (f *ℤ x) u) (least-times f y z))
  where
    u : ℤ
    u = least (f *ℤ y) (f *ℤ z)

greatest-times-3 : (f x y z : ℤ) → (f *ℤ greatest x (greatest y z)) ≤ℤ greatest (f *ℤ x) (greatest (f *ℤ y) (f *ℤ z))
greatest-times-3 f x y z =
    above-greatest f (greatest (f *ℤ x) u) x (greatest y z) (greatest-left (f *ℤ x) u)
    (≤ℤ-trans (greatest-times f y z) (greatest-right (f *ℤ x) u))
  where
    u : ℤ
    u = greatest (f *ℤ y) (f *ℤ z)

neg-times : (f l : ℕ) → neg_ℤ (pos (f * l)) ≡ pos f *ℤ neg_ℤ (pos l)
neg-times f l = simp whole (omega arith)

module _ (f : ℕ) (g : Leg) where
  abbrev F : ℤ
  F = pos f

  -- what an end z allows k ticks away
  plus_times : (z : ℤ) (k : ℕ)
      → F *ℤ z +ℤ pos (f * g.acceleration_limit * k) ≡ F *ℤ (z +ℤ pos (g.acceleration_limit * k))
  plus_times z k =
      ap (λ (n : ℕ). F *ℤ z +ℤ pos n) (mul_assoc f g.acceleration_limit k)
      ∙ sym (*ℤ-+ℤ F z (pos (g.acceleration_limit * k)))

  minus-times : (z : ℤ) (k : ℕ)
      → F *ℤ z -ℤ pos (f * g.acceleration_limit * k) ≡ F *ℤ (z -ℤ pos (g.acceleration_limit * k))
  minus-times z k =
      ap (λ (n : ℕ). F *ℤ z -ℤ pos n) (mul_assoc f g.acceleration_limit k)
      ∙ sym (apart-times F z (pos (g.acceleration_limit * k)))

  upper-times : (k : ℕ) → upper (finer_leg f g) k ≤ℤ (F *ℤ upper g k)
  upper-times k =
      subst (λ (z : ℤ). z ≤ℤ (F *ℤ upper g k))
      (sym (ap₂ (λ (y z : ℤ). least (pos (f * g.speed_limit)) (least y z)) (plus_times g.start k)
      (plus_times g.end (g.ticks - k))))
      (least-times-3 F (pos g.speed_limit) (g.start +ℤ pos (g.acceleration_limit * k))
      (g.end +ℤ pos (g.acceleration_limit * (g.ticks - k))))

  lower-times : (k : ℕ) → (F *ℤ lower g k) ≤ℤ lower (finer_leg f g) k
  lower-times k =
      subst (λ (z : ℤ). (F *ℤ lower g k) ≤ℤ z)
      (sym
      (ap₂ (λ (y z : ℤ). greatest (neg_ℤ (pos (f * g.speed_limit))) (greatest y z)) (minus-times g.start k)
      (minus-times g.end (g.ticks - k))
      ∙ ap (λ (x : ℤ). greatest x (greatest (F *ℤ from) (F *ℤ to))) (neg-times f g.speed_limit)))
      (greatest-times-3 F (neg_ℤ (pos g.speed_limit)) from to)
    where
      from : ℤ
      from = g.start -ℤ pos (g.acceleration_limit * k)

      to : ℤ
      to = g.end -ℤ pos (g.acceleration_limit * (g.ticks - k))

-- ---- so where the finer leg can be made, the coarse one can

module _ (f : ℕ) (hf : 1 ≤ f) (g : Leg) (δ : ℤ) (even : T (sum_is_whole g δ))
    (t : T (feasible (finer_leg f g) (pos f *ℤ δ))) where
  abbrev fine : Leg
  fine = finer_leg f g

  -- the finer grid's required sum is f times the coarse one
  required-times : required fine (pos f *ℤ δ) ≡ pos f *ℤ required g δ
  required-times =
      ap (λ (z : ℤ). shr_z z 2)
      (spread (pos f) δ g.start g.end
      ∙ ap (λ (z : ℤ). pos f *ℤ z)
      (sym (twice_half (twice_required g δ) (eqb→eq (nat_abs (twice_required g δ) % 2) 0 even)))
      ∙ across (pos f) (required g δ))
      ∙ half_twice (pos f *ℤ required g δ)
    where
      spread : (f d s e : ℤ) → f *ℤ d -ℤ f *ℤ s -ℤ f *ℤ e ≡ f *ℤ (d -ℤ s -ℤ e)
      spread f d s e = same (f ∷ d ∷ s ∷ e ∷ []) (search pol depth 20 fits 9000) tt

      across : (f r : ℤ) → f *ℤ (pos 2 *ℤ r) ≡ pos 2 *ℤ (f *ℤ r)
      across f r = same (f ∷ r ∷ []) (search pol depth 20 fits 9000) tt

  high : required g δ ≤ℤ sum_to (upper g) (g.ticks - 1)
  high =
      *ℤ-cancel (required g δ) (sum_to (upper g) (g.ticks - 1)) f hf
      (subst₂ (λ (y z : ℤ). y ≤ℤ z) required-times (sum-times (pos f) (upper g) (g.ticks - 1))
      (≤ℤ-trans (feasible-below fine (pos f *ℤ δ) t)
      (sum_mono (upper fine) (λ k. pos f *ℤ upper g k) (g.ticks - 1) (λ k h. upper-times f g k))))

  low : sum_to (lower g) (g.ticks - 1) ≤ℤ required g δ
  low =
      *ℤ-cancel (sum_to (lower g) (g.ticks - 1)) (required g δ) f hf
      (subst₂ (λ (y z : ℤ). y ≤ℤ z) (sum-times (pos f) (lower g) (g.ticks - 1)) required-times
      (≤ℤ-trans (sum_mono (λ k. pos f *ℤ lower g k) (lower fine) (g.ticks - 1) (λ k h. lower-times f g k))
      (feasible-above fine (pos f *ℤ δ) t)))

  joined : Joined g
  joined =
      let j : Joined fine = feasible-joined fine (pos f *ℤ δ) t in
      record {
        start = (size-times f g.speed_limit g.start hf).0 j.start;
        end = (size-times f g.speed_limit g.end hf).0 j.end;
        apart = (size-times f (g.acceleration_limit * g.ticks) (g.end -ℤ g.start) hf).0
            (subst₂ (λ (z : ℤ) (n : ℕ). nat_abs z ≤ n) (sym (apart-times (pos f) g.end g.start))
            (mul_assoc f g.acceleration_limit g.ticks)
            j.apart);
      }

  coarse-feasible : T (feasible g δ)
  coarse-feasible =
      every (tests g δ) (
        le→leb (nat_abs g.start) g.speed_limit joined.start,
        (
          le→leb (nat_abs g.end) g.speed_limit joined.end,
          (
            le→leb (nat_abs (g.end -ℤ g.start)) (g.acceleration_limit * g.ticks) joined.apart,
            (even, (low.le, (high.le, tt))),
          ),
        ),
      )

-- no bound on f
pub finer-feasible : (f : ℕ) (g : Leg) (δ : ℤ) → 1 ≤ f → 0 < g.ticks → 0 < g.acceleration_limit
    → g.speed_limit ≤ 2 ^ 37 → T (sum_is_whole g δ)
    → Feasible (finer_leg f g) (pos f *ℤ δ) ↔ Feasible g δ
finer-feasible f g δ hf h hA small even = (
  λ p. (feasible-is g δ h hA small).1
      (coarse-feasible f hf g δ even (meets-feasible (finer_leg f g) (g.ticks - 1) shape (pos f *ℤ δ) p.0 p.1)),
  λ p. ((λ k. pos f *ℤ p.0 k), coarse-meets f g δ p.0 hf p.1),
)
  where
    shape : g.ticks ≡ suc (g.ticks - 1)
    shape = omega arith
