-- The entries of a list that a mask names, stored one by one, the lowest bit of the mask taken off
-- with each.
use mathlib.Core.Path.{◌≡◌, refl, sym, ap, ◌∙◌}
use mathlib.Core.Bool.{Bool, cond}
use mathlib.Core.List.{List, [], ◌∷◌, ◌++◌, append_assoc, append-nil}
use Prim.Native.Nat.{ℕ, zero, suc, ◌+◌, ◌/◌, ◌%◌, ◌<◌}
use native.Mathlib.Omega.{arith}
use native.Mathlib.Numerals.{add-one}
use lib.ListN.{length, get_or, set, take, drop}
use lib.Seq.{take-suc-set, take-length, drop-cons, drop-length}
use borrow.Author.Tests.{eq-eqb, ne_eqb}
use Rattle.layout.specs.Jobs.{named_of}

module _ {A B : Type 0} (f : A → B) (unset : B) (l : List A) where
  -- ---- entry i, m being the bits from there on

  abbrev pub named_at : ℕ → ℕ → B
  named_at i m = get_or (named_of f unset m (drop i l)) 0 unset

  pub is-named : (d : A) (i m : ℕ) → i < length l → m % 2 ≡ 1 → f (get_or l i d) ≡ named_at i m
  unfolding named_of
  is-named d i m h e =
      sym (ap (λ (r : List A). get_or (named_of f unset m r) 0 unset) (drop-cons l i d h)
      ∙ ap (λ (t : Bool). cond t (f (get_or l i d)) unset) (eq-eqb (m % 2) 1 e))

  pub not_named : (i m : ℕ) → (m % 2 ≡ 1 → ⊥) → unset ≡ named_at i m
  unfolding named_of
  not_named i m e = go (drop i l)
    where
      go : (r : List A) → unset ≡ get_or (named_of f unset m r) 0 unset
      go [] = refl
      go (x ∷ xs) = sym (ap (λ (t : Bool). cond t (f x) unset) (ne_eqb (m % 2) 1 e))

  -- ---- entry i and those after it

  named_more : (i m : ℕ) → i < length l
      → named_of f unset m (drop i l) ≡ named_at i m ∷ named_of f unset (m / 2) (drop (suc i) l)
  unfolding named_of
  named_more i m h = go l i h
    where
      go : (l : List A) (i : ℕ) → i < length l
          → named_of f unset m (drop i l)
          ≡ get_or (named_of f unset m (drop i l)) 0 unset ∷ named_of f unset (m / 2) (drop (suc i) l)
      go [] i h = absurd (omega arith)
      go (x ∷ xs) zero h = refl
      go (x ∷ xs) (suc i) h = go xs i (omega arith)

  named_none : (i m : ℕ) → i ≡ length l → named_of f unset m (drop i l) ≡ []
  unfolding named_of
  named_none i m e = ap (named_of f unset m) (ap (λ (j : ℕ). drop j l) e ∙ drop-length l)

  -- the first i of a list, and after them the others that m names
  abbrev pub named_from : ℕ → ℕ → List B → List B
  named_from i m six = take i six ++ named_of f unset m (drop i l)

  -- entry i is stored, and its bit taken off
  pub named-next : (i m : ℕ) (six : List B) → i < length l → i < length six
      → named_from (i + 1) (m / 2) (set six i (named_at i m)) ≡ named_from i m six
  named-next i m six h k =
      let v = named_at i m in
      ap (λ (j : ℕ). named_from j (m / 2) (set six i v)) (add-one i)
      ∙ ap (λ (t : List B). t ++ named_of f unset (m / 2) (drop (suc i) l)) (take-suc-set six i v k)
      ∙ append_assoc (take i six) (v ∷ []) (named_of f unset (m / 2) (drop (suc i) l))
      ∙ ap (λ (t : List B). take i six ++ t) (sym (named_more i m h))

  -- all are stored
  pub named-all : (i m : ℕ) (six : List B) → i ≡ length l → i ≡ length six → named_from i m six ≡ six
  named-all i m six e k =
      ap (λ (t : List B). take i six ++ t) (named_none i m e)
      ∙ append-nil (take i six)
      ∙ ap (λ (j : ℕ). take j six) k
      ∙ take-length six
