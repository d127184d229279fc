-- Booleans and tests: what a test that passed or failed tells, and tests one after another.
use mathlib.Core.Path.{◌≡◌, refl, sym, ap, ◌∙◌, subst}
use mathlib.Core.Bool.{Bool, true, false, not, ◌&&◌}
use mathlib.Core.Logic.{◌↔◌, ◌⊎◌, inl, inr}
use Rattle.std.specs.Prelude.{Option, None, Some}
use Prim.Native.Nat.{ℕ, ◌<◌, ◌≤◌}
use lib.Dec.{T, leb, ltb, eqb, ltb→lt, nltb→le}
use borrow.Author.Tests.{lt-ltb, le-ltb, le-leb, lt-leb, ne_eqb, not-false}

-- ---- one test

pub T_true : (b : Bool) → T b → b ≡ true
T_true true t = refl
T_true false t = absurd t

pub T_false : (b : Bool) → (T b → ⊥) → b ≡ false
T_false true t = absurd (t tt)
T_false false t = refl

pub true-T : {b : Bool} → b ≡ true → T b
true-T e = subst T (sym e) tt

pub false-T : {b : Bool} → b ≡ false → T (not b)
false-T e = subst (λ (b : Bool). T (not b)) (sym e) tt

pub T-iff : (b : Bool) → T b ↔ (b ≡ true)
T-iff b = (T_true b, true-T)

pub not-false-T : (b : Bool) → not b ≡ false → T b
not-false-T b e = true-T (not-false b e)

pub either : (b : Bool) → (b ≡ true) ⊎ (b ≡ false)
either true = inl refl
either false = inr refl

-- ---- choices

pub choice-yes {ℓ} : {X : Type ℓ} (b : Bool) (x y : X) → b ≡ true → x ≡ (elim b as (λ _. X) [ true ↦ x | false ↦ y ])
choice-yes {X = X} b x y e = sym (ap (λ (c : Bool). elim c as (λ _. X) [ true ↦ x | false ↦ y ]) e)

pub choice-no {ℓ} : {X : Type ℓ} (b : Bool) (x y : X) → b ≡ false → y ≡ (elim b as (λ _. X) [ true ↦ x | false ↦ y ])
choice-no {X = X} b x y e = sym (ap (λ (c : Bool). elim c as (λ _. X) [ true ↦ x | false ↦ y ]) e)

-- by a test a < b
pub lt-choice {ℓ} : {X : Type ℓ} (a b : ℕ) (x y : X) → a < b → (elim (ltb a b) as (λ _. X) [ true ↦ x | false ↦ y ]) ≡ x
lt-choice a b x y h = sym (choice-yes (ltb a b) x y (lt-ltb a b h))

pub le-choice {ℓ} : {X : Type ℓ} (a b : ℕ) (x y : X) → b ≤ a → (elim (ltb a b) as (λ _. X) [ true ↦ x | false ↦ y ]) ≡ y
le-choice a b x y h = sym (choice-no (ltb a b) x y (le-ltb a b h))

-- what holds of both branches holds of the choice
pub by_bool {ℓ κ} : {X : Type ℓ} (Q : X → Type κ) (b : Bool) (x y : X) → (T b → Q x) → (T (not b) → Q y)
    → Q (elim b [ true ↦ x | false ↦ y ])
by_bool Q true x y f g = f tt
by_bool Q false x y f g = g tt

pub by-option {ℓ κ} : {A : Type 0} {X : Type ℓ} (Q : X → Type κ) (o : Option A) (f : A → X) (y : X)
    → ((a : A) → o ≡ Some a → Q (f a)) → (o ≡ None → Q y) → Q (elim o [ Some a ↦ f a | None ↦ y ])
by-option Q None f y g h = h refl
by-option Q (Some a) f y g h = g a refl

-- ---- tests of natural numbers

pub leb_yes : {m n : ℕ} → m ≤ n → leb m n ≡ true
leb_yes {m} {n} h = le-leb m n h

pub leb_no : {m n : ℕ} → n < m → leb m n ≡ false
leb_no {m} {n} h = lt-leb m n h

pub ltb_yes : {m n : ℕ} → m < n → ltb m n ≡ true
ltb_yes {m} {n} h = lt-ltb m n h

pub ltb_no : {m n : ℕ} → n ≤ m → ltb m n ≡ false
ltb_no {m} {n} h = le-ltb m n h

pub eqb_no : {m n : ℕ} → (m ≡ n → ⊥) → eqb m n ≡ false
eqb_no {m} {n} h = ne_eqb m n h

pub lt-or-le : (a b : ℕ) → (a < b) ⊎ (b ≤ a)
lt-or-le a b = go (ltb a b) (ltb→lt a b) (nltb→le a b)
  where
    go : (c : Bool) → (T c → a < b) → (T (not c) → b ≤ a) → (a < b) ⊎ (b ≤ a)
    go true f g = inl (f tt)
    go false f g = inr (g tt)

-- ---- two tests

pub left : (a b : Bool) → T (a && b) → T a
left true b t = tt
left false b t = t

pub right : (a b : Bool) → T (a && b) → T b
right true b t = t
right false b t = absurd t

pub both : (a b : Bool) → T (a && b) → T a × T b
both a b t = (left a b t, right a b t)

pub and : (a b : Bool) → T a → T b → T (a && b)
and true b p q = q
and false b p q = absurd p

-- what code gives back that tests a and then b: the second test, or false
pub and_yes : (a b : Bool) {r : Bool} → a ≡ true → r ≡ b → r ≡ (a && b)
and_yes a b e h = h ∙ sym (ap (λ (x : Bool). x && b) e)

pub and_no : (a b : Bool) → a ≡ false → false ≡ (a && b)
and_no a b e = sym (ap (λ (x : Bool). x && b) e)
