-- Laws of ℤ that the library does not have: its ring, its order, and the size of a number.
use mathlib.Core.Path.{◌≡◌, refl, ap, ◌∙◌}
use mathlib.Core.Logic.{◌↔◌, ◌⊎◌, inl, inr, ⊎_elim}
use Prim.Native.Nat.{ℕ, zero, suc, ◌+◌, ◌*◌, ◌≤◌}
use native.Mathlib.Omega.{arith}
use native.Mathlib.Decide.{dec_le}
use lib.IntN.{ℤ, pos, negsuc, neg_ℤ, nat_abs, ◌+ℤ◌, ◌-ℤ◌, ◌*ℤ◌, +ℤ_comm, -ℤ-+ℤ_cancel}
use lib.Signed.{◌≤ℤ◌, ◌<ℤ◌}
use Rattle.whole.proofs.Differences.{P, N, PN-le, PN-lt, whole, all₁, all₂, all₃, all₄}

-- ---- the ring

pub *ℤ-assoc : (x y z : ℤ) → (x *ℤ y) *ℤ z ≡ x *ℤ (y *ℤ z)
*ℤ-assoc = all₃ _ (λ a b c d e f. simp whole (omega arith))

pub *ℤ-+ℤ : (x y z : ℤ) → x *ℤ (y +ℤ z) ≡ x *ℤ y +ℤ x *ℤ z
*ℤ-+ℤ = all₃ _ (λ a b c d e f. simp whole (omega arith))

pub +ℤ-*ℤ : (x y z : ℤ) → (x +ℤ y) *ℤ z ≡ x *ℤ z +ℤ y *ℤ z
+ℤ-*ℤ = all₃ _ (λ a b c d e f. simp whole (omega arith))

pub one-*ℤ : (x : ℤ) → pos 1 *ℤ x ≡ x
one-*ℤ = all₁ _ (λ a b. simp whole (omega arith))

pub add-sub : (x y : ℤ) → x +ℤ (y -ℤ x) ≡ y
add-sub x y = +ℤ_comm x (y -ℤ x) ∙ -ℤ-+ℤ_cancel y x

-- ---- the order

pub ≤ℤ-trans : {x y z : ℤ} → x ≤ℤ y → y ≤ℤ z → x ≤ℤ z
≤ℤ-trans {x} {y} {z} = go x y z
  where
    go : (x y z : ℤ) → x ≤ℤ y → y ≤ℤ z → x ≤ℤ z
    go = all₃ _ (λ a b c d e f. simp whole (omega arith))

pub ≤ℤ-antisym : {x y : ℤ} → x ≤ℤ y → y ≤ℤ x → x ≡ y
≤ℤ-antisym {x} {y} = go x y
  where
    go : (x y : ℤ) → x ≤ℤ y → y ≤ℤ x → x ≡ y
    go = all₂ _ (λ a b c d. simp whole (omega arith))

pub ≤ℤ-total : (x y : ℤ) → (x ≤ℤ y) ⊎ (y <ℤ x)
≤ℤ-total x y = go (dec_le (P x + N y) (P y + N x))
  where
    go : Dec (P x + N y ≤ P y + N x) → (x ≤ℤ y) ⊎ (y <ℤ x)
    go (yes h) = inl (PN-le h)
    go (no h) = inr (PN-lt (omega arith))

pub <ℤ-weaken : {x y : ℤ} → x <ℤ y → x ≤ℤ y
<ℤ-weaken {x} {y} = go x y
  where
    go : (x y : ℤ) → x <ℤ y → x ≤ℤ y
    go = all₂ _ (λ a b c d. simp whole (omega arith))

-- x ≤ x + 1; x < y gives x + 1 ≤ y; x < y + 1 gives x ≤ y
pub ≤ℤ-next : (x : ℤ) → x ≤ℤ (x +ℤ pos 1)
≤ℤ-next = all₁ _ (λ a b. simp whole (omega arith))

pub next-≤ℤ : (x y : ℤ) → x <ℤ y → (x +ℤ pos 1) ≤ℤ y
next-≤ℤ = all₂ _ (λ a b c d. simp whole (omega arith))

pub <ℤ-next : (x y : ℤ) → x <ℤ (y +ℤ pos 1) → x ≤ℤ y
<ℤ-next = all₂ _ (λ a b c d. simp whole (omega arith))

pub +ℤ-mono : {x y z w : ℤ} → x ≤ℤ y → z ≤ℤ w → (x +ℤ z) ≤ℤ (y +ℤ w)
+ℤ-mono {x} {y} {z} {w} = go x y z w
  where
    go : (x y z w : ℤ) → x ≤ℤ y → z ≤ℤ w → (x +ℤ z) ≤ℤ (y +ℤ w)
    go = all₄ _ (λ a b c d e f g h. simp whole (omega arith))

pub sub-nonneg : (x y : ℤ) → x ≤ℤ y → pos 0 ≤ℤ (y -ℤ x)
sub-nonneg = all₂ _ (λ a b c d. simp whole (omega arith))

-- products, of which `omega` knows nothing
pub *ℤ-nonneg : {x y : ℤ} → pos 0 ≤ℤ x → pos 0 ≤ℤ y → pos 0 ≤ℤ (x *ℤ y)
*ℤ-nonneg {x = pos a} {y = pos b} h k = PN-le (omega arith)
*ℤ-nonneg {x = pos a} {y = negsuc b} h k = absurd k.le
*ℤ-nonneg {x = negsuc a} h k = absurd h.le

pub *ℤ-mono : {x y z : ℤ} → pos 0 ≤ℤ z → x ≤ℤ y → (x *ℤ z) ≤ℤ (y *ℤ z)
*ℤ-mono {x} {y} {z} h k = go x y z (*ℤ-nonneg (sub-nonneg x y k) h)
  where
    go : (x y z : ℤ) → pos 0 ≤ℤ ((y -ℤ x) *ℤ z) → (x *ℤ z) ≤ℤ (y *ℤ z)
    go = all₃ _ (λ a b c d e f. simp whole (omega arith))

pub *ℤ-cancel : (x y : ℤ) (n : ℕ) → 1 ≤ n → (pos n *ℤ x) ≤ℤ (pos n *ℤ y) → x ≤ℤ y
*ℤ-cancel x y n h k = ⊎_elim (λ (e : x ≤ℤ y). e)
    (λ (e : y <ℤ x). absurd (go n x y h (*ℤ-mono (PN-le (omega arith)) (next-≤ℤ y x e)) k)) (≤ℤ-total x y)
  where
    go : (n : ℕ) (x y : ℤ) → 1 ≤ n → ((y +ℤ pos 1) *ℤ pos n) ≤ℤ (x *ℤ pos n) → (pos n *ℤ x) ≤ℤ (pos n *ℤ y) → ⊥
    go n = all₂ _ (λ a b c d. simp whole (omega arith))

-- ---- the size

pub nat_abs-negpos : (n : ℕ) → nat_abs (neg_ℤ (pos n)) ≡ n
nat_abs-negpos zero = refl
nat_abs-negpos (suc n) = refl

pub nat_abs-neg : (x : ℤ) → nat_abs (neg_ℤ x) ≡ nat_abs x
nat_abs-neg (pos n) = nat_abs-negpos n
nat_abs-neg (negsuc n) = refl

pub nat_abs-+ : (x y : ℤ) → nat_abs (x +ℤ y) ≤ nat_abs x + nat_abs y
nat_abs-+ = all₂ _ (λ a b c d. simp whole (omega arith))

pub nat_abs-* : (x y : ℤ) → nat_abs (x *ℤ y) ≡ nat_abs x * nat_abs y
nat_abs-* (pos a) (pos b) = refl
nat_abs-* (pos a) (negsuc b) = nat_abs-negpos (a * suc b)
nat_abs-* (negsuc a) (pos b) = nat_abs-negpos (suc a * b)
nat_abs-* (negsuc a) (negsuc b) = refl

pub nat_abs-zero : (x : ℤ) → nat_abs x ≡ 0 → x ≡ pos 0
nat_abs-zero (pos n) e = ap pos e
nat_abs-zero (negsuc n) e = absurd (omega arith)

pub nat_abs-iff : (n : ℕ) (x : ℤ) → (nat_abs x ≤ n) ↔ ((neg_ℤ (pos n) ≤ℤ x) × (x ≤ℤ pos n))
nat_abs-iff n = all₁ _ (λ a b. simp whole (omega arith))
