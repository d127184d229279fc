-- Whole numbers as differences of two natural numbers, which `omega` reads. A statement of whole
-- numbers is proved of differences:
--     thm : (x y z : ℤ) → x ≤ℤ y → pos 0 ≤ℤ z → x ≤ℤ (y +ℤ z)
--     thm = all₃ _ (λ a b c d e f. simp whole (omega arith))
use mathlib.Core.Path.{◌≡◌, refl, sym, ap, ◌∙◌, subst}
use mathlib.Core.Logic.{◌↔◌}
use mathlib.Core.Bool.{Bool, true, false, not, cond}
use Prim.Native.Nat.{ℕ, zero, suc, ◌+◌, ◌*◌, ◌-◌, ◌^◌, ◌<◌, ◌≤◌, min, max}
use native.Mathlib.Omega.{arith}
use lib.IntN.{ℤ, pos, negsuc, neg_ℤ, sub_ℕ, nat_abs, ◌+ℤ◌, ◌*ℤ◌}
use lib.Signed.{lt_z, le_z, ◌≤ℤ◌, ◌<ℤ◌, le_z_yes, lt_z_yes}
use lib.Dec.{T, ltb, ltb→lt, nltb→le, leb→le, nleb→lt, le→leb, lt→ltb}
use mir.Syntax.{w64}
use mir.Val.{SFits}
use Rattle.whole.specs.Integers.{least, greatest}
use Rattle.whole.specs.Ranges.{Within}

-- ---- the two parts of a number: x = P x − N x, one of them 0

abbrev pub P : ℤ → ℕ
P (pos n) = n
P (negsuc n) = 0

abbrev pub N : ℤ → ℕ
N (pos n) = 0
N (negsuc n) = suc n

PN-eq : (x y : ℤ) → P x + N y ≡ P y + N x → x ≡ y
PN-eq (pos a) (pos b) e = ap pos (omega arith)
PN-eq (pos a) (negsuc b) e = absurd (omega arith)
PN-eq (negsuc a) (pos b) e = absurd (omega arith)
PN-eq (negsuc a) (negsuc b) e = ap negsuc (omega arith)

pub cond_ind : (c : Bool) (x y : ℤ) (Q : ℤ → Type 0) → (T c → Q x) → (T (not c) → Q y) → Q (cond c x y)
cond_ind true x y Q f g = f tt
cond_ind false x y Q f g = g tt

PN-subℕ : (a b : ℕ) → P (sub_ℕ a b) + b ≡ N (sub_ℕ a b) + a
PN-subℕ a b =
    cond_ind (ltb a b) (negsuc (b - suc a)) (pos (a - b)) (λ z. P z + b ≡ N z + a)
    (λ t. let h : a < b = ltb→lt a b t in omega arith)
    (λ t. let h : b ≤ a = nltb→le a b t in omega arith)

PN-neg : (x : ℤ) → (P (neg_ℤ x) ≡ N x) × (N (neg_ℤ x) ≡ P x)
PN-neg (pos zero) = (refl, refl)
PN-neg (pos (suc a)) = (refl, refl)
PN-neg (negsuc a) = (refl, refl)

PN-add : (x y : ℤ) → P (x +ℤ y) + (N x + N y) ≡ N (x +ℤ y) + (P x + P y)
PN-add (pos a) (pos b) = omega arith
PN-add (pos a) (negsuc b) = omega (arith, PN-subℕ a (suc b))
PN-add (negsuc a) (pos b) = omega (arith, PN-subℕ b (suc a))
PN-add (negsuc a) (negsuc b) = omega arith

le-PN' : (x y : ℤ) → T (le_z x y) → P x + N y ≤ P y + N x
le-PN' (pos a) (pos b) t = omega (arith, leb→le a b t)
le-PN' (pos a) (negsuc b) t = absurd t
le-PN' (negsuc a) (pos b) t = omega arith
le-PN' (negsuc a) (negsuc b) t = omega (arith, leb→le b a t)

PN-le' : (x y : ℤ) → P x + N y ≤ P y + N x → T (le_z x y)
PN-le' (pos a) (pos b) h = le→leb a b (omega arith)
PN-le' (pos a) (negsuc b) h = absurd (omega arith)
PN-le' (negsuc a) (pos b) h = tt
PN-le' (negsuc a) (negsuc b) h = le→leb b a (omega arith)

lt-PN' : (x y : ℤ) → T (lt_z x y) → P x + N y < P y + N x
lt-PN' (pos a) (pos b) t = omega (arith, ltb→lt a b t)
lt-PN' (pos a) (negsuc b) t = absurd t
lt-PN' (negsuc a) (pos b) t = omega arith
lt-PN' (negsuc a) (negsuc b) t = omega (arith, ltb→lt b a t)

PN-lt' : (x y : ℤ) → P x + N y < P y + N x → T (lt_z x y)
PN-lt' (pos a) (pos b) h = lt→ltb a b (omega arith)
PN-lt' (pos a) (negsuc b) h = absurd (omega arith)
PN-lt' (negsuc a) (pos b) h = tt
PN-lt' (negsuc a) (negsuc b) h = lt→ltb b a (omega arith)

le-PN : {x y : ℤ} → x ≤ℤ y → P x + N y ≤ P y + N x
le-PN {x} {y} h = le-PN' x y h.le

pub PN-le : {x y : ℤ} → P x + N y ≤ P y + N x → x ≤ℤ y
PN-le {x} {y} h = le_z_yes (PN-le' x y h)

lt-PN : {x y : ℤ} → x <ℤ y → P x + N y < P y + N x
lt-PN {x} {y} h = lt-PN' x y h.lt

pub PN-lt : {x y : ℤ} → P x + N y < P y + N x → x <ℤ y
PN-lt {x} {y} h = lt_z_yes (PN-lt' x y h)

-- x ≤ y failed
pub nle-PN : (x y : ℤ) → T (not (le_z x y)) → P y + N x < P x + N y
nle-PN (pos a) (pos b) t = omega (arith, nleb→lt a b t)
nle-PN (pos a) (negsuc b) t = omega arith
nle-PN (negsuc a) (pos b) t = absurd t
nle-PN (negsuc a) (negsuc b) t = omega (arith, nleb→lt b a t)

pub le-fails : {x y : ℤ} → T (not (le_z x y)) → y <ℤ x
le-fails {x} {y} t = PN-lt (nle-PN x y t)

-- ---- differences

infixl 6 ◌⊖◌
pub ◌⊖◌ : ℕ → ℕ → ℤ
a ⊖ b = sub_ℕ a b

PN-⊖ : (a b : ℕ) → P (a ⊖ b) + b ≡ N (a ⊖ b) + a
unfolding ◌⊖◌
PN-⊖ a b = PN-subℕ a b

⊖-ext : (a b c d : ℕ) → a + d ≡ c + b → a ⊖ b ≡ c ⊖ d
⊖-ext a b c d e = PN-eq (a ⊖ b) (c ⊖ d) (omega (arith, PN-⊖ a b, PN-⊖ c d))

⊖-rep : (z : ℤ) → P z ⊖ N z ≡ z
⊖-rep z = PN-eq (P z ⊖ N z) z (omega (arith, PN-⊖ (P z) (N z)))

pub ⊖-pos : (n : ℕ) → pos n ≡ n ⊖ 0
⊖-pos n = PN-eq (pos n) (n ⊖ 0) (omega (arith, PN-⊖ n 0))

pub ⊖-negsuc : (n : ℕ) → negsuc n ≡ 0 ⊖ suc n
⊖-negsuc n = PN-eq (negsuc n) (0 ⊖ suc n) (omega (arith, PN-⊖ 0 (suc n)))

pub ⊖-neg : (a b : ℕ) → neg_ℤ (a ⊖ b) ≡ b ⊖ a
⊖-neg a b = PN-eq (neg_ℤ (a ⊖ b)) (b ⊖ a) (omega (arith, PN-⊖ a b, PN-⊖ b a, PN-neg (a ⊖ b)))

pub ⊖-negpos : (n : ℕ) → neg_ℤ (pos n) ≡ 0 ⊖ n
⊖-negpos n = ap neg_ℤ (⊖-pos n) ∙ ⊖-neg n 0

pub ⊖-sub : (a b : ℕ) → sub_ℕ a b ≡ a ⊖ b
⊖-sub a b = PN-eq (sub_ℕ a b) (a ⊖ b) (omega (arith, PN-⊖ a b, PN-subℕ a b))

pub ⊖-add : (a b c d : ℕ) → (a ⊖ b) +ℤ (c ⊖ d) ≡ (a + c) ⊖ (b + d)
⊖-add a b c d =
    PN-eq ((a ⊖ b) +ℤ (c ⊖ d)) ((a + c) ⊖ (b + d))
    (omega (arith, PN-⊖ a b, PN-⊖ c d, PN-⊖ (a + c) (b + d), PN-add (a ⊖ b) (c ⊖ d)))

-- a difference is a natural number or the negative of one: a = b + k, or b = a + (k + 1)
⊖-ind : (Q : ℕ → ℕ → ℤ → Type 0) → ((b k : ℕ) → Q (b + k) b (pos k))
    → ((a k : ℕ) → Q a (a + suc k) (negsuc k)) → (a b : ℕ) → Q a b (a ⊖ b)
⊖-ind Q f g a b = go (a ⊖ b) (PN-⊖ a b)
  where
    go : (z : ℤ) → P z + b ≡ N z + a → Q a b z
    go (pos k) e = subst (λ (n : ℕ). Q n b (pos k)) (omega arith) (f b k)
    go (negsuc k) e = subst (λ (n : ℕ). Q a n (negsuc k)) (omega arith) (g a k)

pub ⊖-mul : (a b c d : ℕ) → (a ⊖ b) *ℤ (c ⊖ d) ≡ (a * c + b * d) ⊖ (a * d + b * c)
⊖-mul = ⊖-ind (λ a b z. (c d : ℕ) → z *ℤ (c ⊖ d) ≡ (a * c + b * d) ⊖ (a * d + b * c))
    (λ b k. ⊖-ind (λ c d z. pos k *ℤ z ≡ ((b + k) * c + b * d) ⊖ ((b + k) * d + b * c))
    (λ d l. ⊖-pos (k * l) ∙ ⊖-ext _ _ _ _ (omega arith))
    (λ c l. ap neg_ℤ (⊖-pos (k * suc l)) ∙ ⊖-neg _ _ ∙ ⊖-ext _ _ _ _ (omega arith)))
    (λ a k. ⊖-ind (λ c d z. negsuc k *ℤ z ≡ (a * c + (a + suc k) * d) ⊖ (a * d + (a + suc k) * c))
    (λ d l. ap neg_ℤ (⊖-pos (suc k * l)) ∙ ⊖-neg _ _ ∙ ⊖-ext _ _ _ _ (omega arith))
    (λ c l. ⊖-pos (suc k * suc l) ∙ ⊖-ext _ _ _ _ (omega arith)))

pub ⊖-abs : (a b : ℕ) → nat_abs (a ⊖ b) ≡ (a - b) + (b - a)
⊖-abs = ⊖-ind (λ a b z. nat_abs z ≡ (a - b) + (b - a)) (λ b k. omega arith) (λ a k. omega arith)

pub ⊖-le : (a b c d : ℕ) → ((a ⊖ b) ≤ℤ (c ⊖ d)) ↔ (a + d ≤ c + b)
⊖-le a b c d = (λ h. omega (arith, le-PN h, PN-⊖ a b, PN-⊖ c d), λ h. PN-le (omega (arith, PN-⊖ a b, PN-⊖ c d)))

pub ⊖-lt : (a b c d : ℕ) → ((a ⊖ b) <ℤ (c ⊖ d)) ↔ (a + d < c + b)
⊖-lt a b c d = (λ h. omega (arith, lt-PN h, PN-⊖ a b, PN-⊖ c d), λ h. PN-lt (omega (arith, PN-⊖ a b, PN-⊖ c d)))

eq-PN : {x y : ℤ} → x ≡ y → P x + N y ≡ P y + N x
eq-PN {x} {y} e = ap (λ (z : ℤ). P x + N z) (sym e) ∙ ap (λ (z : ℤ). P z + N x) e

pub ⊖-eq : (a b c d : ℕ) → (a ⊖ b ≡ c ⊖ d) ↔ (a + d ≡ c + b)
⊖-eq a b c d = (λ h. omega (arith, eq-PN h, PN-⊖ a b, PN-⊖ c d), ⊖-ext a b c d)

pub ⊖-least : (a b c d : ℕ) → least (a ⊖ b) (c ⊖ d) ≡ min (a + d) (c + b) ⊖ (b + d)
⊖-least a b c d =
    cond_ind (le_z (a ⊖ b) (c ⊖ d)) (a ⊖ b) (c ⊖ d) (λ z. z ≡ min (a + d) (c + b) ⊖ (b + d))
    (λ t. let h : a + d ≤ c + b = (⊖-le a b c d).0 (le_z_yes t) in ⊖-ext _ _ _ _ (omega arith))
    (λ t. let h = nle-PN (a ⊖ b) (c ⊖ d) t in ⊖-ext _ _ _ _ (omega (arith, PN-⊖ a b, PN-⊖ c d)))

pub ⊖-greatest : (a b c d : ℕ) → greatest (a ⊖ b) (c ⊖ d) ≡ max (a + d) (c + b) ⊖ (b + d)
⊖-greatest a b c d =
    cond_ind (le_z (a ⊖ b) (c ⊖ d)) (c ⊖ d) (a ⊖ b) (λ z. z ≡ max (a + d) (c + b) ⊖ (b + d))
    (λ t. let h : a + d ≤ c + b = (⊖-le a b c d).0 (le_z_yes t) in ⊖-ext _ _ _ _ (omega arith))
    (λ t. let h = nle-PN (a ⊖ b) (c ⊖ d) t in ⊖-ext _ _ _ _ (omega (arith, PN-⊖ a b, PN-⊖ c d)))

pub ⊖-within : (n a b : ℕ) → Within n (a ⊖ b) ↔ ((a ≤ n + b) × (b ≤ n + a))
⊖-within n = ⊖-ind (λ a b z. Within n z ↔ ((a ≤ n + b) × (b ≤ n + a))) (λ b k. omega arith) (λ a k. omega arith)

pub ⊖-sfits : (a b : ℕ) → SFits w64 (a ⊖ b) ↔ ((a < 2 ^ 63 + b) × (b ≤ 2 ^ 63 + a))
⊖-sfits = ⊖-ind (λ a b z. SFits w64 z ↔ ((a < 2 ^ 63 + b) × (b ≤ 2 ^ 63 + a))) (λ b k. omega arith) (λ a k. omega arith)

-- a statement of differences becomes one of natural numbers
pub ruleset whole = (
  ⊖-pos,
  ⊖-negsuc,
  ⊖-negpos,
  ⊖-sub,
  ⊖-neg,
  ⊖-add,
  ⊖-mul,
  ⊖-abs,
  ⊖-le,
  ⊖-lt,
  ⊖-eq,
  ⊖-least,
  ⊖-greatest,
  ⊖-within,
  ⊖-sfits,
)

-- ---- a statement of numbers, from that of differences

pub all₁ : (Q : ℤ → Type 0) → ((a b : ℕ) → Q (a ⊖ b)) → (x : ℤ) → Q x
all₁ Q f x = subst Q (⊖-rep x) (f (P x) (N x))

pub all₂ : (Q : ℤ → ℤ → Type 0) → ((a b c d : ℕ) → Q (a ⊖ b) (c ⊖ d)) → (x y : ℤ) → Q x y
all₂ Q f x y = all₁ (λ x. Q x y) (λ a b. all₁ (Q (a ⊖ b)) (f a b) y) x

pub all₃ : (Q : ℤ → ℤ → ℤ → Type 0) → ((a b c d e f : ℕ) → Q (a ⊖ b) (c ⊖ d) (e ⊖ f)) → (x y z : ℤ) → Q x y z
all₃ Q k x y z = all₁ (λ x. Q x y z) (λ a b. all₂ (Q (a ⊖ b)) (k a b) y z) x

pub all₄ : (Q : ℤ → ℤ → ℤ → ℤ → Type 0) → ((a b c d e f g h : ℕ) → Q (a ⊖ b) (c ⊖ d) (e ⊖ f) (g ⊖ h))
    → (x y z w : ℤ) → Q x y z w
all₄ Q k x y z w = all₁ (λ x. Q x y z w) (λ a b. all₃ (Q (a ⊖ b)) (k a b) y z w) x

pub all₅ : (Q : ℤ → ℤ → ℤ → ℤ → ℤ → Type 0)
    → ((a b c d e f g h i j : ℕ) → Q (a ⊖ b) (c ⊖ d) (e ⊖ f) (g ⊖ h) (i ⊖ j)) → (x y z w v : ℤ) → Q x y z w v
all₅ Q k x y z w v = all₁ (λ x. Q x y z w v) (λ a b. all₄ (Q (a ⊖ b)) (k a b) y z w v) x

pub all₆ : (Q : ℤ → ℤ → ℤ → ℤ → ℤ → ℤ → Type 0)
    → ((a b c d e f g h i j k l : ℕ) → Q (a ⊖ b) (c ⊖ d) (e ⊖ f) (g ⊖ h) (i ⊖ j) (k ⊖ l))
    → (x y z w v u : ℤ) → Q x y z w v u
all₆ Q k x y z w v u = all₁ (λ x. Q x y z w v u) (λ a b. all₅ (Q (a ⊖ b)) (k a b) y z w v u) x

pub all₇ : (Q : ℤ → ℤ → ℤ → ℤ → ℤ → ℤ → ℤ → Type 0)
    → ((a b c d e f g h i j k l m n : ℕ) → Q (a ⊖ b) (c ⊖ d) (e ⊖ f) (g ⊖ h) (i ⊖ j) (k ⊖ l) (m ⊖ n))
    → (x y z w v u t : ℤ) → Q x y z w v u t
all₇ Q k x y z w v u t = all₁ (λ x. Q x y z w v u t) (λ a b. all₆ (Q (a ⊖ b)) (k a b) y z w v u t) x
