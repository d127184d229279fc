-- Masks: the bits of a number by halving, and that the mask of the axes for which a
-- test holds names exactly these.
use Rattle.std.specs.Prelude.{Some}
use Prim.Native.Nat.{ℕ, zero, suc, ◌+◌, ◌-◌, ◌*◌, ◌/◌, ◌%◌, ◌^◌, ◌≤◌, ◌<◌}
use mathlib.Core.Path.{◌≡◌, refl, sym, ap, ap₂, ◌∙◌, subst}
use mathlib.Core.Bool.{Bool, true, false, not, false≢true}
use mathlib.Core.List.{List, [], ◌∷◌}
use mathlib.Core.Logic.{◌↔◌}
use native.Mathlib.Omega.{arith}
use native.Mathlib.Nat as N
use lib.Dec.{T, eqb, eqb→eq, ltb, ltb→lt, nltb→le}
use Rattle.std.specs.Prelude.{slice_get}
use borrow.Author.Tests.{eq-eqb}
use Rattle.whole.proofs.Elements.{none-some}
use Rattle.model.specs.declared.Axis.{Axis}
use Rattle.model.specs.planning.Job.{JobAxis, bit, mask_where}
use Rattle.theorems.specs.Verdict.{Among, Names}

-- ---- the bits of a number

pub half-bit : (m j : ℕ) → bit m (suc j) ≡ bit (m / 2) j
half-bit m j = sym
    (ap (λ (k : ℕ). eqb (k % 2) 1) (N.div-div-eq-div-mul m 2 (2 ^ j) ∙ ap (λ (k : ℕ). m / k) (sym (N.pow-succ' 2 j))))

pub first_bit : (m : ℕ) → bit m 0 ≡ eqb (m % 2) 1
first_bit m = ap (λ (k : ℕ). eqb (k % 2) 1) (N.div-one m)

no-bit : (d : ℕ) → bit 0 d ≡ false
no-bit zero = refl
no-bit (suc d) = half-bit 0 d ∙ no-bit d

-- 0 or 1
abbrev one-if : Bool → ℕ
one-if true = 1
one-if false = 0

low_bit : (b : Bool) (q : ℕ) → bit (one-if b + 2 * q) 0 ≡ b
low_bit true q = first_bit (1 + 2 * q) ∙ ap (λ (k : ℕ). eqb k 1) odd
  where
    odd : (1 + 2 * q) % 2 ≡ 1
    odd = omega arith
low_bit false q = first_bit (0 + 2 * q) ∙ ap (λ (k : ℕ). eqb k 1) even
  where
    even : (0 + 2 * q) % 2 ≡ 0
    even = omega arith

high_bit : (b : Bool) (q d : ℕ) → bit (one-if b + 2 * q) (suc d) ≡ bit q d
high_bit b q d = half-bit (one-if b + 2 * q) d ∙ ap (λ (m : ℕ). bit m d) (half b)
  where
    half : (b : Bool) → (one-if b + 2 * q) / 2 ≡ q
    half true = omega arith
    half false = omega arith

plus_none : (q : ℕ) → 2 * q ≡ one-if false + 2 * q
plus_none q = omega arith

-- ---- axes whose numbers ascend from k on

abbrev pub Ascends : ℕ → List JobAxis → Type 0
Ascends k [] = Unit {0}
Ascends k (x ∷ xs) = (k ≤ x.number) × Ascends (suc x.number) xs

pub ascends-from : (k l : ℕ) (xs : List JobAxis) → k ≤ l → Ascends l xs → Ascends k xs
ascends-from k l [] h a = tt
ascends-from k l (x ∷ xs) h a = (omega (arith, a.0), a.1)

-- the mask without its lowest i bits
abbrev mask_from : ℕ → (Axis → Bool) → List JobAxis → ℕ
mask_from i f [] = 0
mask_from i f (x ∷ xs) = elim (f x.axis) [ true ↦ 2 ^ (x.number - i) + mask_from i f xs | false ↦ mask_from i f xs ]

-- whether the axis of a number is there and passes the test
abbrev holds : (Axis → Bool) → ℕ → List JobAxis → Bool
holds f k [] = false
holds f k (x ∷ xs) = elim (eqb x.number k) [ true ↦ f x.axis | false ↦ holds f k xs ]

module _ (f : Axis → Bool) where
  whole-mask : (xs : List JobAxis) → mask_from 0 f xs ≡ mask_where f xs
  whole-mask [] = refl
  whole-mask (x ∷ xs) = go (f x.axis) (whole-mask xs)
    where
      go : (b : Bool) → mask_from 0 f xs ≡ mask_where f xs
          → ◌≡◌ {A = ℕ} (elim b as (λ z. ℕ) [ true ↦ 2 ^ (x.number - 0) + mask_from 0 f xs | false ↦ mask_from 0 f xs ])
          (elim b as (λ z. ℕ) [ true ↦ 2 ^ x.number + mask_where f xs | false ↦ mask_where f xs ])
      go true e = ap₂ (λ (k m : ℕ). 2 ^ k + m) {x = x.number - 0} {y = x.number} (omega arith) e
      go false e = e

  -- where no number is i
  doubled : (i : ℕ) (xs : List JobAxis) → Ascends (suc i) xs → mask_from i f xs ≡ 2 * mask_from (suc i) f xs
  doubled i [] a = refl
  doubled i (x ∷ xs) a =
      go (f x.axis) (doubled i xs (ascends-from (suc i) (suc x.number) xs (omega (arith, a.0)) a.1))
    where
      power : 2 ^ (x.number - i) ≡ 2 * 2 ^ (x.number - suc i)
      power = ap (λ (k : ℕ). 2 ^ k) {x = x.number - i} {y = suc (x.number - suc i)} (omega (arith, a.0))
          ∙ N.pow-succ' 2 (x.number - suc i)

      go : (b : Bool) → mask_from i f xs ≡ 2 * mask_from (suc i) f xs
          → (elim b as (λ z. ℕ) [ true ↦ 2 ^ (x.number - i) + mask_from i f xs | false ↦ mask_from i f xs ])
          ≡ 2 * (elim b as
          (λ z. ℕ) [ true ↦ 2 ^ (x.number - suc i) + mask_from (suc i) f xs | false ↦ mask_from (suc i) f xs ])
      go true e = omega (arith, power, e)
      go false e = e

  -- where the first number is i
  with_first : (i : ℕ) (x : JobAxis) (xs : List JobAxis) → x.number ≡ i → Ascends (suc x.number) xs
      → mask_from i f (x ∷ xs) ≡ one-if (f x.axis) + 2 * mask_from (suc i) f xs
  with_first i x xs e a = go (f x.axis) (doubled i xs (subst (λ (k : ℕ). Ascends (suc k) xs) e a))
    where
      power : 2 ^ (x.number - i) ≡ 1
      power = ap (λ (k : ℕ). 2 ^ k) {x = x.number - i} {y = 0} (omega arith)

      go : (b : Bool) → mask_from i f xs ≡ 2 * mask_from (suc i) f xs
          → (elim b as (λ z. ℕ) [ true ↦ 2 ^ (x.number - i) + mask_from i f xs | false ↦ mask_from i f xs ])
          ≡ one-if b + 2 * mask_from (suc i) f xs
      go true d = omega (arith, power, d)
      go false d = omega (arith, d)

  -- ---- `holds`

  at_first : (k : ℕ) (x : JobAxis) (xs : List JobAxis) → x.number ≡ k → holds f k (x ∷ xs) ≡ f x.axis
  at_first k x xs e = go (eqb x.number k) (subst (λ (m : ℕ). eqb x.number m ≡ true) e (N-eqb x.number))
    where
      N-eqb : (n : ℕ) → eqb n n ≡ true
      N-eqb n = eq-eqb n n refl

      go : (b : Bool) → b ≡ true → (elim b as (λ z. Bool) [ true ↦ f x.axis | false ↦ holds f k xs ]) ≡ f x.axis
      go true e = refl
      go false e = absurd (false≢true e)

  past_first : (k : ℕ) (x : JobAxis) (xs : List JobAxis) → (x.number ≡ k → ⊥) → holds f k (x ∷ xs) ≡ holds f k xs
  past_first k x xs n = go (eqb x.number k) (eqb→eq x.number k)
    where
      go : (b : Bool) → (T b → x.number ≡ k)
          → (elim b as (λ z. Bool) [ true ↦ f x.axis | false ↦ holds f k xs ]) ≡ holds f k xs
      go true e = absurd (n (e tt))
      go false e = refl

  holds-none : (k : ℕ) (xs : List JobAxis) → Ascends (suc k) xs → holds f k xs ≡ false
  holds-none k [] a = refl
  holds-none k (x ∷ xs) a =
      past_first k x xs (λ e. omega (arith, a.0))
      ∙ holds-none k xs (ascends-from (suc k) (suc x.number) xs (omega (arith, a.0)) a.1)

  pub holds_at : (i : ℕ) (xs : List JobAxis) (x : JobAxis) → Ascends i xs → Among xs x
      → holds f x.number xs ≡ f x.axis
  holds_at i [] x a m = absurd (none-some m.1)
  holds_at i (y ∷ xs) x a (zero, e) =
      let s : y ≡ x = cc in
      subst (λ (z : JobAxis). holds f z.number (y ∷ xs) ≡ f z.axis) s (at_first y.number y xs refl)
  holds_at i (y ∷ xs) x a (suc k, e) =
      past_first x.number y xs (λ q. omega (arith, above (suc y.number) xs k a.1 e))
      ∙ holds_at (suc y.number) xs x a.1 (k, e)
    where
      above : (j : ℕ) (l : List JobAxis) (k : ℕ) → Ascends j l → slice_get l k ≡ Some x → j ≤ x.number
      above j [] k a e = absurd (let z : ◌≡◌ {A = ℕ} 0 1 = cc in omega arith)
      above j (z ∷ l) zero a e = let s : z ≡ x = cc in subst (λ (w : JobAxis). j ≤ w.number) s a.0
      above j (z ∷ l) (suc k) a e = omega (arith, a.0, above (suc z.number) l k a.1 e)

  pub holds-only : (k : ℕ) (xs : List JobAxis) → holds f k xs ≡ true → (x : JobAxis) × (Among xs x × (x.number ≡ k))
  holds-only k [] e = absurd (false≢true e)
  holds-only k (x ∷ xs) e = go (eqb x.number k) (eqb→eq x.number k) (holds-only k xs) e
    where
      later : (y : JobAxis) × (Among xs y × (y.number ≡ k)) → (y : JobAxis) × (Among (x ∷ xs) y × (y.number ≡ k))
      later r = (r.0, ((suc r.1.0.0, r.1.0.1), r.1.1))

      go : (b : Bool) → (T b → x.number ≡ k) → (holds f k xs ≡ true → (y : JobAxis) × (Among xs y × (y.number ≡ k)))
          → (elim b as (λ z. Bool) [ true ↦ f x.axis | false ↦ holds f k xs ]) ≡ true
          → (y : JobAxis) × (Among (x ∷ xs) y × (y.number ≡ k))
      go true n h t = (x, ((zero, refl), n tt))
      go false n h t = later (h t)

  -- ---- the bits of the mask

  -- the same one bit on, for the axes from the next number on
  abbrev Bits : ℕ → Type 0
  Bits d = (i : ℕ) (xs : List JobAxis) → Ascends i xs → bit (mask_from i f xs) d ≡ holds f (i + d) xs

  module _ (i : ℕ) (x : JobAxis) (xs : List JobAxis) where
    here-zero : x.number ≡ i → Ascends (suc x.number) xs → bit (mask_from i f (x ∷ xs)) 0 ≡ holds f (i + 0) (x ∷ xs)
    here-zero e a =
        ap (λ (m : ℕ). bit m 0) (with_first i x xs e a)
        ∙ low_bit (f x.axis) (mask_from (suc i) f xs)
        ∙ sym (at_first (i + 0) x xs (omega arith))

    here-suc : (d : ℕ) → Bits d → x.number ≡ i → Ascends (suc x.number) xs
        → bit (mask_from i f (x ∷ xs)) (suc d) ≡ holds f (i + suc d) (x ∷ xs)
    here-suc d h e a =
        ap (λ (m : ℕ). bit m (suc d)) (with_first i x xs e a)
        ∙ high_bit (f x.axis) (mask_from (suc i) f xs) d
        ∙ h (suc i) xs (subst (λ (k : ℕ). Ascends (suc k) xs) e a)
        ∙ ap (λ (k : ℕ). holds f k xs) {x = suc i + d} {y = i + suc d} (omega arith)
        ∙ sym (past_first (i + suc d) x xs (λ q. omega arith))

    beyond-zero : Ascends (suc i) (x ∷ xs) → bit (mask_from i f (x ∷ xs)) 0 ≡ holds f (i + 0) (x ∷ xs)
    beyond-zero a =
        ap (λ (m : ℕ). bit m 0) (doubled i (x ∷ xs) a ∙ plus_none (mask_from (suc i) f (x ∷ xs)))
        ∙ low_bit false (mask_from (suc i) f (x ∷ xs))
        ∙ sym (holds-none (i + 0) (x ∷ xs) (omega (arith, a.0), a.1))

    beyond-suc : (d : ℕ) → Bits d → Ascends (suc i) (x ∷ xs)
        → bit (mask_from i f (x ∷ xs)) (suc d) ≡ holds f (i + suc d) (x ∷ xs)
    beyond-suc d h a =
        ap (λ (m : ℕ). bit m (suc d)) (doubled i (x ∷ xs) a ∙ plus_none (mask_from (suc i) f (x ∷ xs)))
        ∙ high_bit false (mask_from (suc i) f (x ∷ xs)) d
        ∙ h (suc i) (x ∷ xs) a
        ∙ ap (λ (k : ℕ). holds f k (x ∷ xs)) {x = suc i + d} {y = i + suc d} (omega arith)

  -- whether the first number is i
  by_first : (A : Type 0) (i : ℕ) (x : JobAxis) → i ≤ x.number → (x.number ≡ i → A) → (suc i ≤ x.number → A) → A
  by_first A i x l equal above = go (ltb i x.number) (ltb→lt i x.number) (nltb→le i x.number)
    where
      go : (b : Bool) → (T b → i < x.number) → (T (not b) → x.number ≤ i) → A
      go true f g = above (f tt)
      go false f g = let h : x.number ≤ i = g tt in equal (omega arith)

  bits-zero : Bits 0
  bits-zero i [] a = no-bit 0
  bits-zero i (x ∷ xs) a = by_first _ i x a.0 (λ e. here-zero i x xs e a.1) (λ h. beyond-zero i x xs (h, a.1))

  bits-suc : (d : ℕ) → Bits d → Bits (suc d)
  bits-suc d h i [] a = no-bit (suc d)
  bits-suc d h i (x ∷ xs) a =
      by_first _ i x a.0 (λ e. here-suc i x xs d h e a.1) (λ q. beyond-suc i x xs d h (q, a.1))

  bits-from : (d : ℕ) → Bits d
  bits-from zero = bits-zero
  bits-from (suc d) = bits-suc d (bits-from d)

  bits_are : (d : ℕ) (xs : List JobAxis) → Ascends 0 xs → bit (mask_where f xs) d ≡ holds f d xs
  bits_are d xs a = ap (λ (m : ℕ). bit m d) (sym (whole-mask xs)) ∙ bits-from d 0 xs a
      ∙ ap (λ (k : ℕ). holds f k xs) {x = 0 + d} {y = d} (omega arith)

  -- the mask of the axes for which the test holds, where the test is true exactly where Q holds
  pub names : (Q : Axis → Type 0) (xs : List JobAxis) → Ascends 0 xs
      → ((x : JobAxis) → Among xs x → (f x.axis ≡ true) ↔ Q x.axis) → Names Q xs (mask_where f xs)
  names Q xs a q =
      record {
        each = λ x m. (
          λ e. (q x m).0 (sym (holds_at 0 xs x a m) ∙ sym (bits_are x.number xs a) ∙ e),
          λ h. bits_are x.number xs a ∙ holds_at 0 xs x a m ∙ (q x m).1 h,
        );
        only = λ i e. holds-only i xs (sym (bits_are i xs a) ∙ e);
      }
