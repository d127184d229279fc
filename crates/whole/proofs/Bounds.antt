-- What code computes with signed numbers: the number that an expression of machine numbers is, and
-- how far it is from 0. `search exact` works both out from the ranges of the numbers in it,
-- `Within n z` and `Is n z e` with n a numeral:
--     add-result c = sfits (search exact depth 20) tt          that a sum, a product or a quotient
--                                                              fits an `i64`
--     returns c = exactly (search exact depth 30) tt           what the code computes, with no
--                                                              machine number left in it
-- Three sets of rules: `exact`; `computed`, which also takes the equations that callees ensure; and
-- `loose`, for code that only compares and so needs no range. `search` takes the shallowest proof,
-- and the rules of `loose` would hide a range: so it stands apart.
use mathlib.Core.Path.{◌≡◌, refl, sym, ap, ◌∙◌, subst}
use mathlib.Core.Bool.{Bool, true, false, cond, ◌&&◌}
use Prim.Native.Nat.{ℕ, suc, ◌+◌, ◌-◌, ◌*◌, ◌^◌, ◌<◌, ◌≤◌, max}
use native.Mathlib.Omega.{arith}
use native.Mathlib.Nat.{mul-le-mul, le_trans, lt_of_le_of_lt, lt_of_lt_of_le, div-le_self, mod-le}
use lib.IntN.{ℤ, pos, negsuc, neg_ℤ, nat_abs, ◌+ℤ◌, ◌*ℤ◌}
use lib.Signed.{mag, ◌≤ℤ◌, ◌<ℤ◌, shr_z, quot_z, rem_z, lt_z, le_z, lt_z_yes, lt_z_no, le_z_yes, non_neg, nat_abs-le}
use lib.Dec.{T, leb, ltb, eqb, ltb→lt, leb→le}
use mir.Syntax.{w8, w32, w64}
use mir.Val.{Fits, SFits, to_z, of_z, hbits}
use mir.ValLaws.{to_z-of_z, to_z_pos}
use Rattle.std.specs.Int.{int_min, int_max}
use Rattle.whole.specs.Integers.{least, greatest}
use Rattle.whole.specs.Ranges.{Within, Is}
use Rattle.whole.proofs.Tests.{left, right, true-T, false-T, eqb_no}
use Rattle.whole.proofs.Differences.{le-fails}
use Rattle.whole.proofs.MinMax.{min-is-least, max-is-greatest}
use Rattle.whole.proofs.Laws.{nat_abs-negpos, nat_abs-neg, nat_abs-+, nat_abs-*}

-- ---- how far from 0

pub lit-holds : (z : ℤ) → nat_abs z ≤ nat_abs z
lit-holds z = omega arith

pub add_holds : (x y : ℤ) (m n : ℕ) → nat_abs x ≤ m → nat_abs y ≤ n → nat_abs (x +ℤ y) ≤ m + n
add_holds x y m n h k = omega (arith, nat_abs-+ x y)

pub mul_holds : (x y : ℤ) (m n : ℕ) → nat_abs x ≤ m → nat_abs y ≤ n → nat_abs (x *ℤ y) ≤ m * n
mul_holds x y m n h k = rw nat_abs-* (mul-le-mul h k)

pub neg-holds : (x : ℤ) (m : ℕ) → nat_abs x ≤ m → nat_abs (neg_ℤ x) ≤ m
neg-holds x m h = rw nat_abs-neg h

pub shr-holds : (z : ℤ) (m n : ℕ) → nat_abs z ≤ n → nat_abs (shr_z z m) ≤ n
shr-holds (pos a) m n h = omega (arith, div-le_self a m)
shr-holds (negsuc a) m n h = omega (arith, div-le_self a m)

pub quot-holds : (z d : ℤ) (n : ℕ) → nat_abs z ≤ n → nat_abs (quot_z z d) ≤ n
quot-holds (pos a) (pos b) n h = omega (arith, div-le_self a b)
quot-holds (pos a) (negsuc b) n h = rw nat_abs-negpos (omega (arith, div-le_self a (suc b)))
quot-holds (negsuc a) (pos b) n h = rw nat_abs-negpos (omega (arith, div-le_self (suc a) b))
quot-holds (negsuc a) (negsuc b) n h = omega (arith, div-le_self (suc a) (suc b))

pub rem-holds : (z d : ℤ) (n : ℕ) → nat_abs z ≤ n → nat_abs (rem_z z d) ≤ n
rem-holds (pos a) d n h = omega (arith, mod-le a (nat_abs d))
rem-holds (negsuc a) d n h = rw nat_abs-negpos (omega (arith, mod-le (suc a) (nat_abs d)))

pub cond-holds : (t : Bool) (x y : ℤ) (m n : ℕ) → nat_abs x ≤ m → nat_abs y ≤ n → nat_abs (cond t x y) ≤ max m n
cond-holds true x y m n h k = omega arith
cond-holds false x y m n h k = omega arith

pub fits-holds : (z : ℤ) → SFits w64 z → nat_abs z ≤ 2 ^ 63
fits-holds z f = nat_abs-le z f.sfits

mag-le : (z : ℤ) → mag z ≤ nat_abs z
mag-le (pos n) = omega arith
mag-le (negsuc n) = omega arith

pub fits-of : (z : ℤ) (n : ℕ) → nat_abs z ≤ n → T (ltb n (2 ^ 63)) → SFits w64 z
fits-of z n h t = record { sfits = lt_of_le_of_lt (mag-le z) (lt_of_le_of_lt h (ltb→lt n (2 ^ 63) t)) }

-- a number that fits, read back from its bits
pub back-id : {z : ℤ} → SFits w64 z → to_z w64 (of_z w64 z) ≡ z
back-id {z} f = to_z-of_z w64 z f

-- ---- what code computes: the number, a bound on it, and whether each step on the way fits

pub record Exact (z : ℤ) : Type 0 where
  pub num : ℤ
  pub bound : ℕ
  pub ok : Bool
  pub same : T ok → z ≡ num
  pub holds : nat_abs num ≤ bound

-- a function of two such numbers
pub both-same {ℓ} : {X : Type ℓ} (f : ℤ → ℤ → X) (x y : ℤ) (p : Exact x) (q : Exact y)
    → T (p.ok && q.ok) → f x y ≡ f p.num q.num
both-same f x y p q t = λ i. f (p.same (left p.ok q.ok t) i) (q.same (right p.ok q.ok t) i)

-- numbers whose range is known
abbrev pub x-known : {n : ℕ} {z : ℤ} → Within n z → Exact z
x-known {n} {z} w = record { num = z; bound = n; ok = true; same = λ _. refl; holds = w.within }

abbrev pub x-is : {n : ℕ} {z e : ℤ} → Is n z e → Exact z
x-is {n} {z} {e} h = record { num = e; bound = n; ok = true; same = λ _. h.is; holds = h.within }

abbrev pub x_pos : (n : ℕ) → Exact (pos n)
x_pos n = record { num = pos n; bound = n; ok = true; same = λ _. refl; holds = lit-holds (pos n) }

abbrev pub x-negsuc : (n : ℕ) → Exact (negsuc n)
x-negsuc n = record { num = negsuc n; bound = suc n; ok = true; same = λ _. refl; holds = lit-holds (negsuc n) }

-- unsigned numbers, cast
pub unsigned-same : (n k : ℕ) → n < k → T (leb k (2 ^ 63)) → to_z w64 n ≡ pos n
unsigned-same n k h t = to_z_pos w64 n (lt_of_lt_of_le h (leb→le k (2 ^ 63) t))

pub cast-small : (b n : ℕ) → n ≤ b → T (ltb b (2 ^ 63)) → Is b (to_z w64 n) (pos n)
cast-small b n h t = record { is = to_z_pos w64 n (lt_of_le_of_lt h (ltb→lt b (2 ^ 63) t)); within = h }

pub unsigned-holds : (n k : ℕ) → n < k → nat_abs (pos n) ≤ k
unsigned-holds n k h = omega arith

abbrev pub x-u8 : {n : ℕ} → Fits w8 n → Exact (to_z w64 n)
x-u8 {n} f =
    record {
      num = pos n;
      bound = 2 ^ 8;
      ok = true;
      same = λ _. unsigned-same n (2 ^ 8) f.fits tt;
      holds = unsigned-holds n (2 ^ 8) f.fits;
    }

abbrev pub x-u32 : {n : ℕ} → Fits w32 n → Exact (to_z w64 n)
x-u32 {n} f =
    record {
      num = pos n;
      bound = 2 ^ 32;
      ok = true;
      same = λ _. unsigned-same n (2 ^ 32) f.fits tt;
      holds = unsigned-holds n (2 ^ 32) f.fits;
    }

-- operations
abbrev pub x-add : (x y : ℤ) → Exact x → Exact y → Exact (x +ℤ y)
x-add x y p q =
    record {
      num = p.num +ℤ q.num;
      bound = p.bound + q.bound;
      ok = p.ok && q.ok;
      same = both-same ◌+ℤ◌ x y p q;
      holds = add_holds p.num q.num p.bound q.bound p.holds q.holds;
    }

abbrev pub x-mul : (x y : ℤ) → Exact x → Exact y → Exact (x *ℤ y)
x-mul x y p q =
    record {
      num = p.num *ℤ q.num;
      bound = p.bound * q.bound;
      ok = p.ok && q.ok;
      same = both-same ◌*ℤ◌ x y p q;
      holds = mul_holds p.num q.num p.bound q.bound p.holds q.holds;
    }

abbrev pub x-neg : (x : ℤ) → Exact x → Exact (neg_ℤ x)
x-neg x p =
    record {
      num = neg_ℤ p.num;
      bound = p.bound;
      ok = p.ok;
      same = λ t. ap neg_ℤ (p.same t);
      holds = neg-holds p.num p.bound p.holds;
    }

abbrev pub x-shr : (x : ℤ) (m : ℕ) → Exact x → Exact (shr_z x m)
x-shr x m p =
    record {
      num = shr_z p.num m;
      bound = p.bound;
      ok = p.ok;
      same = λ t. ap (λ (z : ℤ). shr_z z m) (p.same t);
      holds = shr-holds p.num m p.bound p.holds;
    }

abbrev pub x-quot : (x y : ℤ) → Exact x → Exact y → Exact (quot_z x y)
x-quot x y p q =
    record {
      num = quot_z p.num q.num;
      bound = p.bound;
      ok = p.ok && q.ok;
      same = both-same quot_z x y p q;
      holds = quot-holds p.num q.num p.bound p.holds;
    }

abbrev pub x-rem : (x y : ℤ) → Exact x → Exact y → Exact (rem_z x y)
x-rem x y p q =
    record {
      num = rem_z p.num q.num;
      bound = p.bound;
      ok = p.ok && q.ok;
      same = both-same rem_z x y p q;
      holds = rem-holds p.num q.num p.bound p.holds;
    }

abbrev pub x-least : (x y : ℤ) → Exact x → Exact y → Exact (least x y)
x-least x y p q =
    record {
      num = least p.num q.num;
      bound = max p.bound q.bound;
      ok = p.ok && q.ok;
      same = both-same (λ a b. least a b) x y p q;
      holds = cond-holds (le_z p.num q.num) p.num q.num p.bound q.bound p.holds q.holds;
    }

abbrev pub x-greatest : (x y : ℤ) → Exact x → Exact y → Exact (greatest x y)
x-greatest x y p q =
    record {
      num = greatest p.num q.num;
      bound = max q.bound p.bound;
      ok = p.ok && q.ok;
      same = both-same (λ a b. greatest a b) x y p q;
      holds = cond-holds (le_z p.num q.num) q.num p.num q.bound p.bound q.holds p.holds;
    }

-- the library's `min` and `max`, as the definitions have them
abbrev pub x-int_min : (x y : ℤ) → Exact x → Exact y → Exact (int_min x y)
x-int_min x y p q =
    record {
      num = least p.num q.num;
      bound = max p.bound q.bound;
      ok = p.ok && q.ok;
      same = λ t. min-is-least x y ∙ both-same (λ a b. least a b) x y p q t;
      holds = cond-holds (le_z p.num q.num) p.num q.num p.bound q.bound p.holds q.holds;
    }

abbrev pub x-int_max : (x y : ℤ) → Exact x → Exact y → Exact (int_max x y)
x-int_max x y p q =
    record {
      num = greatest p.num q.num;
      bound = max q.bound p.bound;
      ok = p.ok && q.ok;
      same = λ t. max-is-greatest x y ∙ both-same (λ a b. greatest a b) x y p q t;
      holds = cond-holds (le_z p.num q.num) q.num p.num q.bound p.bound q.holds p.holds;
    }

-- what is read back from the bits of a number that fits
pub back-of : (z : ℤ) (p : Exact z) → T (p.ok && ltb p.bound (2 ^ 63)) → to_z w64 (of_z w64 z) ≡ p.num
back-of z p t =
    let e : z ≡ p.num = p.same (left p.ok (ltb p.bound (2 ^ 63)) t) in
    let f : SFits w64 p.num = fits-of p.num p.bound p.holds (right p.ok (ltb p.bound (2 ^ 63)) t) in
    back-id (subst (SFits w64) (sym e) f) ∙ e

abbrev pub x-back : (z : ℤ) → Exact z → Exact (to_z w64 (of_z w64 z))
x-back z p =
    record {
      num = p.num;
      bound = p.bound;
      ok = p.ok && ltb p.bound (2 ^ 63);
      same = back-of z p;
      holds = p.holds;
    }

-- by an equation, as a callee's `ensures`
abbrev pub x-eq : {z e : ℤ} → z ≡ e → Exact e → Exact z
x-eq p x = record { num = x.num; bound = x.bound; ok = x.ok; same = λ t. p ∙ x.same t; holds = x.holds }

-- a number of which it is only known that it fits
abbrev pub x_fits : {z : ℤ} → SFits w64 z → Exact z
x_fits {z} f = record { num = z; bound = 2 ^ 63; ok = true; same = λ _. refl; holds = fits-holds z f }

abbrev pub x-param : {z : ℤ} → SFits w64 z → Exact (to_z w64 (of_z w64 z))
x-param {z} f = record { num = z; bound = 2 ^ 63; ok = true; same = λ _. back-id f; holds = fits-holds z f }

abbrev pub x-ok : (z : ℤ) → mag z < 2 ^ hbits w64 → Exact (to_z w64 (of_z w64 z))
x-ok z h = x-param {z = z} (record { sfits = h })

-- ---- tests

-- the Boolean b is l < r, or l ≤ r
pub record LtTest (b : Bool) : Type 0 where
  pub l : ℤ
  pub r : ℤ
  pub ok : Bool
  pub is : T ok → b ≡ lt_z l r

pub record LeTest (b : Bool) : Type 0 where
  pub l : ℤ
  pub r : ℤ
  pub ok : Bool
  pub is : T ok → b ≡ le_z l r

abbrev pub x_lt : (x y : ℤ) → Exact x → Exact y → LtTest (lt_z x y)
x_lt x y p q = record { l = p.num; r = q.num; ok = p.ok && q.ok; is = both-same lt_z x y p q }

abbrev pub x-le : (x y : ℤ) → Exact x → Exact y → LeTest (le_z x y)
x-le x y p q = record { l = p.num; r = q.num; ok = p.ok && q.ok; is = both-same le_z x y p q }

pub ruleset exact = (
  x-add,
  x-mul,
  x-neg,
  x-shr,
  x-quot,
  x-rem,
  x-least,
  x-greatest,
  x-int_min,
  x-int_max,
  x-back,
  x_lt,
  x-le,
  x_pos,
  x-negsuc,
  x-known,
  x-is,
  x-u8,
  x-u32,
)

pub ruleset computed = (exact, x-eq)

pub ruleset loose = (exact, x-param, x-ok, x_fits)

-- ---- what follows, the last argument being tt

pub sfits : {z : ℤ} → (p : Exact z) → T (p.ok && ltb p.bound (2 ^ 63)) → SFits w64 z
sfits p t =
    subst (SFits w64) (sym (p.same (left p.ok (ltb p.bound (2 ^ 63)) t)))
    (fits-of p.num p.bound p.holds (right p.ok (ltb p.bound (2 ^ 63)) t))

pub exactly : {z : ℤ} → (p : Exact z) → T p.ok → z ≡ p.num
exactly p t = p.same t

pub is-of : {z : ℤ} {n : ℕ} → (p : Exact z) → T (p.ok && leb p.bound n) → Is n z p.num
is-of {z} {n} p t =
    let b : p.bound ≤ n = leb→le p.bound n (right p.ok (leb p.bound n) t) in
    record { is = p.same (left p.ok (leb p.bound n) t); within = le_trans p.holds b }

pub within : {z : ℤ} {n : ℕ} → (p : Exact z) → T (p.ok && leb p.bound n) → Within n z
within {z} {n} p t = let i = is-of p t in subst (Within n) (sym i.is) (record { within = i.within })

pub then_is : {n : ℕ} {z e f : ℤ} → Is n z e → e ≡ f → Is n z f
then_is {n} h p = record { is = h.is ∙ p; within = subst (λ (x : ℤ). nat_abs x ≤ n) p h.within }

-- a test that is given back
pub le_is : {b : Bool} → (p : LeTest b) → T p.ok → b ≡ le_z p.l p.r
le_is p t = p.is t

-- a branch that was taken, and one that was left
pub lt-taken : {b : Bool} → b ≡ true → (p : LtTest b) → T p.ok → p.l <ℤ p.r
lt-taken e p t = lt_z_yes (true-T (sym (p.is t) ∙ e))

pub lt-left : {b : Bool} → b ≡ false → (p : LtTest b) → T p.ok → p.r ≤ℤ p.l
lt-left e p t = lt_z_no (false-T (sym (p.is t) ∙ e))

pub le-taken : {b : Bool} → b ≡ true → (p : LeTest b) → T p.ok → p.l ≤ℤ p.r
le-taken e p t = le_z_yes (true-T (sym (p.is t) ∙ e))

pub le_left : {b : Bool} → b ≡ false → (p : LeTest b) → T p.ok → p.r <ℤ p.l
le_left e p t = le-fails (false-T (sym (p.is t) ∙ e))

-- bits are 0 where the number is
pub bits-zero : (z : ℤ) → SFits w64 z → eqb (of_z w64 z) 0 ≡ eqb (nat_abs z) 0
bits-zero (pos n) f = refl
bits-zero (negsuc n) f = eqb_no bits ∙ sym (eqb_no size)
  where
    bits : 2 ^ 64 - suc n ≡ 0 → ⊥
    bits e = let h : n < 2 ^ 63 = f.sfits in omega arith

    size : suc n ≡ 0 → ⊥
    size e = omega arith

-- a cast to `u64` or `usize`
pub nonneg-cast : (z : ℤ) → pos 0 ≤ℤ z → SFits w64 z → T (non_neg z) × Fits w64 (nat_abs z)
nonneg-cast (pos n) h f = (tt, record { fits = lt_of_lt_of_le f.sfits (leb→le (2 ^ 63) (2 ^ 64) tt) })
nonneg-cast (negsuc n) h f = absurd h.le

pub cast-up : (x : ℤ) → SFits w64 x → pos 0 ≤ℤ x
    → T (non_neg (to_z w64 (of_z w64 x))) × Fits w64 (nat_abs (to_z w64 (of_z w64 x)))
cast-up x f h = subst (λ (z : ℤ). T (non_neg z) × Fits w64 (nat_abs z)) (sym (back-id f)) (nonneg-cast x h f)
