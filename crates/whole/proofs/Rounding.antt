-- Division rounded down, to the nearest and, as the machine divides, toward zero. Theorems
-- that hold whichever way a half is rounded take no more of `nearest_quotient` than
-- `nearest-half`: it is off by a half at most.
use mathlib.Core.Path.{◌≡◌, refl, sym, ap, ap₂, ◌∙◌}
use mathlib.Core.Logic.{⊎_elim, ◌↔◌}
use Prim.Native.Nat.{ℕ, zero, suc, ◌+◌, ◌*◌, ◌/◌, ◌%◌, ◌<◌, ◌≤◌}
use native.Mathlib.Omega.{arith}
use native.Mathlib.Nat.{div-add-mod, mod-lt, div-eq_of_lt, div-eq_of_lt-le, mul-div-mul_left, mul-le-mul}
use lib.IntN.{ℤ, pos, negsuc, neg_ℤ, nat_abs, ◌+ℤ◌, ◌-ℤ◌, ◌*ℤ◌, neg_ℤ-neg_ℤ}
use lib.Signed.{◌≤ℤ◌, ◌<ℤ◌, ≤ℤ_refl, shr_z, quot_z}
use Rattle.whole.specs.Integers.{nearest_quotient, nearest_size}
use Rattle.whole.proofs.Differences.{whole, all₁, all₂, all₄}
use Rattle.whole.proofs.Laws.{*ℤ-mono, ≤ℤ-total, ≤ℤ-antisym, next-≤ℤ, nat_abs-*, nat_abs-iff}

not_negative : (m : ℕ) → pos 0 ≤ℤ pos m
not_negative m = simp whole (omega arith)

-- ---- rounded down

-- r is z / m rounded down
pub record Floor (z : ℤ) (m : ℕ) (r : ℤ) : Type 0 where
  pub low : (pos m *ℤ r) ≤ℤ z
  pub high : z <ℤ (pos m *ℤ r +ℤ pos m)

pub shr-floor : (z : ℤ) (m : ℕ) → 0 < m → Floor z m (shr_z z m)
shr-floor (pos a) m h =
    record {
      low = simp whole (omega (arith, div-add-mod a m, mod-lt a h));
      high = simp whole (omega (arith, div-add-mod a m, mod-lt a h));
    }
shr-floor (negsuc a) m h =
    record {
      low = simp whole (omega (arith, div-add-mod a m, mod-lt a h));
      high = simp whole (omega (arith, div-add-mod a m, mod-lt a h));
    }

floor-le : (z m r s : ℤ) → pos 0 ≤ℤ m → (m *ℤ r) ≤ℤ z → z <ℤ (m *ℤ s +ℤ m) → r ≤ℤ s
floor-le z m r s h k l =
    ⊎_elim (λ (e : r ≤ℤ s). e) (λ (e : s <ℤ r). absurd (go z m r s (*ℤ-mono h (next-≤ℤ s r e)) k l)) (≤ℤ-total r s)
  where
    go : (z m r s : ℤ) → ((s +ℤ pos 1) *ℤ m) ≤ℤ (r *ℤ m) → (m *ℤ r) ≤ℤ z → z <ℤ (m *ℤ s +ℤ m) → ⊥
    go = all₄ _ (λ a b c d e f g h. simp whole (omega arith))

pub floor-unique : {z : ℤ} {m : ℕ} {r s : ℤ} → Floor z m r → Floor z m s → r ≡ s
floor-unique {z} {m} {r} {s} f g =
    ≤ℤ-antisym (floor-le z (pos m) r s (not_negative m) f.low g.high)
    (floor-le z (pos m) s r (not_negative m) g.low f.high)

-- halves: twice a number is even, and half of it is the number; an even number is twice its half
pub twice-even : (z : ℤ) → nat_abs (pos 2 *ℤ z) % 2 ≡ 0
twice-even z = rw nat_abs-* (omega arith)

pub half_twice : (z : ℤ) → shr_z (pos 2 *ℤ z) 2 ≡ z
half_twice z = floor-unique (shr-floor (pos 2 *ℤ z) 2 (omega arith))
    (record { low = ≤ℤ_refl (pos 2 *ℤ z); high = more (pos 2 *ℤ z) })
  where
    more : (x : ℤ) → x <ℤ (x +ℤ pos 2)
    more = all₁ _ (λ a b. simp whole (omega arith))

pub twice_half : (z : ℤ) → nat_abs z % 2 ≡ 0 → pos 2 *ℤ shr_z z 2 ≡ z
twice_half (pos a) e = ap pos (omega arith)
twice_half (negsuc a) e = simp whole (omega arith)

-- ---- rounded to the nearest: off by a half at most, whichever way a half goes

-- r is x / d within a half: d (2r − 1) ≤ 2x ≤ d (2r + 1)
pub record WithinHalf (x : ℤ) (d : ℕ) (r : ℤ) : Type 0 where
  pub low : (pos d *ℤ (pos 2 *ℤ r -ℤ pos 1)) ≤ℤ (pos 2 *ℤ x)
  pub high : (pos 2 *ℤ x) ≤ℤ (pos d *ℤ (pos 2 *ℤ r +ℤ pos 1))

-- for `simp` on differences
pub half-iff : (x : ℤ) (d : ℕ) (r : ℤ)
    → WithinHalf x d r
    ↔ (((pos d *ℤ (pos 2 *ℤ r -ℤ pos 1)) ≤ℤ (pos 2 *ℤ x)) × ((pos 2 *ℤ x) ≤ℤ (pos d *ℤ (pos 2 *ℤ r +ℤ pos 1))))
half-iff x d r = (λ h. (h.low, h.high), λ h. record { low = h.0; high = h.1 })

-- a size, rounded, and the same with the sign turned
half-size-of : (a d q : ℕ) → 2 * d * q ≤ 2 * a + d → 2 * a + d < 2 * d * q + 2 * d → WithinHalf (pos a) d (pos q)
half-size-of a d q = simp (whole, half-iff) (omega arith)

half-neg : (d : ℕ) (x r : ℤ) → WithinHalf x d r → WithinHalf (neg_ℤ x) d (neg_ℤ r)
half-neg d = all₂ _ (λ a b c e. simp (whole, half-iff) (omega arith))

double-some : (d : ℕ) → 0 < d → 0 < 2 * d
double-some d h = omega arith

size-half : (a d : ℕ) → 0 < d → WithinHalf (pos a) d (pos (nearest_size a d))
size-half a d h =
    half-size-of a d (nearest_size a d)
    (omega (arith, div-add-mod (2 * a + d) (2 * d)))
    (omega (arith, div-add-mod (2 * a + d) (2 * d), mod-lt (2 * a + d) (double-some d h)))

size-times : (c a d : ℕ) → 0 < c → nearest_size (c * a) (c * d) ≡ nearest_size a d
size-times c a d h = ap₂ ◌/◌ (above c a d) (below c d) ∙ mul-div-mul_left (2 * a + d) (2 * d) h
  where
    above : (c a d : ℕ) → 2 * (c * a) + c * d ≡ c * (2 * a + d)
    above c a d = omega arith

    below : (c d : ℕ) → 2 * (c * d) ≡ c * (2 * d)
    below c d = omega arith

pub nearest-half : (x : ℤ) (d : ℕ) → 0 < d → WithinHalf x d (nearest_quotient x d)
nearest-half (pos a) d h = size-half a d h
nearest-half (negsuc a) d h = half-neg d (pos (suc a)) (pos (nearest_size (suc a) d)) (size-half (suc a) d h)

-- the same left and right: the negative is rounded to the negative
pub nearest-neg : (x : ℤ) (d : ℕ) → 0 < d → nearest_quotient (neg_ℤ x) d ≡ neg_ℤ (nearest_quotient x d)
nearest-neg (pos zero) d h = let z : nearest_size 0 d ≡ 0 = div-eq_of_lt (omega arith) in
    ap (λ (n : ℕ). pos n) z ∙ sym (ap (λ (n : ℕ). neg_ℤ (pos n)) z)
nearest-neg (pos (suc a)) d h = refl
nearest-neg (negsuc a) d h = sym (neg_ℤ-neg_ℤ (pos (nearest_size (suc a) d)))

-- both numbers times c
pub nearest-times : (c : ℕ) (x : ℤ) (d : ℕ) → 0 < c → 0 < d
    → nearest_quotient (pos c *ℤ x) (c * d) ≡ nearest_quotient x d
nearest-times c (pos a) d h k = ap pos (size-times c a d h)
nearest-times c (negsuc a) d h k =
    nearest-neg (pos (c * suc a)) (c * d) (mul-le-mul h k) ∙ ap (λ (n : ℕ). neg_ℤ (pos n)) (size-times c (suc a) d h)

-- a whole number is its own nearest
half-whole : {z : ℤ} {d : ℕ} {r : ℤ} → 0 < d → WithinHalf (pos d *ℤ z) d r → r ≡ z
half-whole {z} {d} {r} h w =
    ≤ℤ-antisym
    (⊎_elim (λ (e : r ≤ℤ z). e)
    (λ (e : z <ℤ r). absurd (above d z r h (*ℤ-mono (not_negative d) (next-≤ℤ z r e)) w.low)) (≤ℤ-total r z))
    (⊎_elim (λ (e : z ≤ℤ r). e)
    (λ (e : r <ℤ z). absurd (below d z r h (*ℤ-mono (not_negative d) (next-≤ℤ r z e)) w.high)) (≤ℤ-total z r))
  where
    above : (d : ℕ) (z r : ℤ) → 0 < d → ((z +ℤ pos 1) *ℤ pos d) ≤ℤ (r *ℤ pos d)
        → (pos d *ℤ (pos 2 *ℤ r -ℤ pos 1)) ≤ℤ (pos 2 *ℤ (pos d *ℤ z)) → ⊥
    above d = all₂ _ (λ a b c e. simp whole (omega arith))

    below : (d : ℕ) (z r : ℤ) → 0 < d → ((r +ℤ pos 1) *ℤ pos d) ≤ℤ (z *ℤ pos d)
        → (pos 2 *ℤ (pos d *ℤ z)) ≤ℤ (pos d *ℤ (pos 2 *ℤ r +ℤ pos 1)) → ⊥
    below d = all₂ _ (λ a b c e. simp whole (omega arith))

pub nearest-whole : (d : ℕ) (z : ℤ) → 0 < d → nearest_quotient (pos d *ℤ z) d ≡ z
nearest-whole d z h = half-whole h (nearest-half (pos d *ℤ z) d h)

-- a number at most dn in size is rounded to one at most n in size
pub half-size : {x : ℤ} {d : ℕ} {r : ℤ} (n : ℕ) → 0 < d → nat_abs x ≤ d * n → WithinHalf x d r → nat_abs r ≤ n
half-size {x} {d} {r} n h k w = (nat_abs-iff n r).1 (low, high)
  where
    above : (d n : ℕ) (x r : ℤ) → 0 < d → nat_abs x ≤ d * n → ((pos n +ℤ pos 1) *ℤ pos d) ≤ℤ (r *ℤ pos d)
        → (pos d *ℤ (pos 2 *ℤ r -ℤ pos 1)) ≤ℤ (pos 2 *ℤ x) → ⊥
    above d n = all₂ _ (λ a b c e. simp whole (omega arith))

    below : (d n : ℕ) (x r : ℤ) → 0 < d → nat_abs x ≤ d * n → ((r +ℤ pos 1) *ℤ pos d) ≤ℤ (neg_ℤ (pos n) *ℤ pos d)
        → (pos 2 *ℤ x) ≤ℤ (pos d *ℤ (pos 2 *ℤ r +ℤ pos 1)) → ⊥
    below d n = all₂ _ (λ a b c e. simp whole (omega arith))

    high : r ≤ℤ pos n
    high = ⊎_elim (λ (e : r ≤ℤ pos n). e)
        (λ (e : pos n <ℤ r). absurd (above d n x r h k (*ℤ-mono (not_negative d) (next-≤ℤ (pos n) r e)) w.low))
        (≤ℤ-total r (pos n))

    low : neg_ℤ (pos n) ≤ℤ r
    low = ⊎_elim (λ (e : neg_ℤ (pos n) ≤ℤ r). e)
        (λ (e : r <ℤ neg_ℤ (pos n)). absurd
        (below d n x r h k (*ℤ-mono (not_negative d) (next-≤ℤ r (neg_ℤ (pos n)) e)) w.high))
        (≤ℤ-total (neg_ℤ (pos n)) r)

-- ---- the machine's division, toward zero

-- half the divisor added to the size, d / 2 being rounded down where d is odd
size-halved : (a d : ℕ) → 0 < d → (a + d / 2) / d ≡ nearest_size a d
size-halved a d h =
    sym (div-eq_of_lt-le (2 * d)
    (omega (arith, div-add-mod (a + d / 2) d))
    (omega (arith, div-add-mod (a + d / 2) d, mod-lt (a + d / 2) h)))

pub quot-nearest : (x : ℤ) (d : ℕ) → 0 < d → pos 0 ≤ℤ x → quot_z (x +ℤ pos (d / 2)) (pos d) ≡ nearest_quotient x d
quot-nearest (pos a) d h k = ap pos (size-halved a d h)
quot-nearest (negsuc a) d h k = absurd k.le

not-below : (a : ℕ) → pos a <ℤ pos 0 → ⊥
not-below a = simp whole (omega arith)

pub quot-nearest-below : (x : ℤ) (d : ℕ) → 0 < d → x <ℤ pos 0 → quot_z (x -ℤ pos (d / 2)) (pos d) ≡ nearest_quotient x d
quot-nearest-below (pos a) d h k = absurd (not-below a k)
quot-nearest-below (negsuc a) d h k =
    ap (λ (z : ℤ). quot_z z (pos d)) (further a (d / 2))
    ∙ ap (λ (n : ℕ). neg_ℤ (pos (n / d))) (one_more (d / 2))
    ∙ ap (λ (n : ℕ). neg_ℤ (pos n)) (size-halved (suc a) d h)
  where
    further : (a k : ℕ) → negsuc a -ℤ pos k ≡ negsuc (a + k)
    further a k = simp whole (omega arith)

    one_more : (k : ℕ) → suc (a + k) ≡ suc a + k
    one_more k = omega arith
