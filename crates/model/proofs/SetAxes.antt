-- The axes of a mask, one by one: what a loop over six axes has before it that takes the lowest bit
-- of the mask off with each. And their number.
use Prim.Native.Nat.{ℕ, zero, suc, ◌+◌, ◌/◌, ◌%◌, ◌^◌, ◌<◌, ◌≤◌}
use Rattle.whole.proofs.Counting.{next_one}
use native.Mathlib.Omega.{arith}
use native.Mathlib.Nat.{pow-suc}
use mathlib.Core.Path.{◌≡◌, refl, sym, ap, subst, ◌∙◌}
use mathlib.Core.Bool.{Bool, true, false, false≢true}
use mathlib.Core.List.{List, [], ◌∷◌}
use lib.ListN.{get_or, length, drop, drop_of_length-le}
use lib.Seq.{drop-cons}
use lib.Dec.{eqb}
use lib.Count.{ones, ones_step, ones-le}
use borrow.Author.Tests.{eq-eqb}
use Rattle.model.specs.declared.Axis.{Axis}
use Rattle.model.specs.planning.Job.{JobAxis, set_from, set_bits, set_axes, unset_axis}
use Rattle.model.specs.planning.Refusals.{Passed, AllPassed}

-- ---- axis i and those after it

-- an axis, where its bit is set, and those after it
abbrev pub pick : Bool → ℕ → Axis → List JobAxis → List JobAxis
pick b i x xs = elim b [ true ↦ record { number = i; axis = x } ∷ xs | false ↦ xs ]

-- the axes from number i on, m being the bits from there on
abbrev pub from : ℕ → ℕ → List Axis → List JobAxis
from i m six = set_axes i m (drop i six)

abbrev pub axis_at : List Axis → ℕ → Axis
axis_at six i = get_or six i unset_axis

pub from_more : (i m : ℕ) (six : List Axis) → i < length six
    → from i m six ≡ pick (eqb (m % 2) 1) i (axis_at six i) (from (i + 1) (m / 2) six)
from_more i m six h =
    ap (set_axes i m) (drop-cons six i unset_axis h)
    ∙ ap (λ (k : ℕ). pick (eqb (m % 2) 1) i (axis_at six i) (set_axes k (m / 2) (drop k six))) (next_one i)

pub from-none : (i m : ℕ) (six : List Axis) → length six ≤ i → from i m six ≡ []
from-none i m six h = ap (set_axes i m) (drop_of_length-le six {i = i} h)

-- ---- which have passed the refusals of one axis

-- the axis before a loop, and those after it
pub record PassedFrom (m : ℕ) (x : Axis) (xs : List JobAxis) : Type 0 where
  pub here : m % 2 ≡ 1 → Passed x
  pub later : AllPassed xs

pub passed-from : (i m : ℕ) (six : List Axis) → i < length six → AllPassed (from i m six)
    → PassedFrom m (axis_at six i) (from (i + 1) (m / 2) six)
passed-from i m six h s =
    let p = split (eqb (m % 2) 1) (axis_at six i) (from (i + 1) (m / 2) six)
    (subst AllPassed (from_more i m six h) s) in
    record { here = λ e. p.0 (eq-eqb (m % 2) 1 e); later = p.1 }
  where
    split : (b : Bool) (x : Axis) (xs : List JobAxis) → AllPassed (pick b i x xs) → (b ≡ true → Passed x) × AllPassed xs
    split true x xs (p, ps) = ((λ e. p), ps)
    split false x xs ps = ((λ e. absurd (false≢true e)), ps)

-- ---- how many there are

-- the lowest digit, counted
lowest : (b : ℕ) → b < 2 → (i : ℕ) (is : List ℕ)
    → length {A = ℕ} (elim (eqb b 1) [ true ↦ i ∷ is | false ↦ is ]) ≡ b + length is
lowest zero h i is = omega arith
lowest (suc zero) h i is = next_one (length is) ∙ omega arith
lowest (suc (suc b)) h i is = absurd (omega arith)

-- the ones of a number of k bits
pub ones-bits : (k i m : ℕ) → m < 2 ^ k → ones m ≡ length (set_from k i m)
ones-bits zero i m h = none (ones-le 0 m h)
  where
    none : {n : ℕ} → n ≤ 0 → n ≡ 0
    none h = omega arith
ones-bits (suc k) i m h =
    ones_step m
    ∙ ap (λ (n : ℕ). m % 2 + n) (ones-bits k (suc i) (m / 2) (omega (arith, h, pow-suc 2 k)))
    ∙ sym (lowest (m % 2) (omega arith) i (set_from k (suc i) (m / 2)))

-- as many axes as set bits
axes-bits : (i m : ℕ) (six : List Axis) → length (set_axes i m six) ≡ length (set_from (length six) i m)
axes-bits i m [] = refl
axes-bits i m (x ∷ six) = go (eqb (m % 2) 1) (axes-bits (suc i) (m / 2) six)
  where
    bits : List ℕ
    bits = set_from (length six) (suc i) (m / 2)

    go : (b : Bool) → length (set_axes (suc i) (m / 2) six) ≡ length bits
        → length (pick b i x (set_axes (suc i) (m / 2) six))
        ≡ length {A = ℕ} (elim b [ true ↦ i ∷ bits | false ↦ bits ])
    go true e = ap suc e
    go false e = e

pub six-axes-bits : (m : ℕ) (six : List Axis) → length six ≡ 6 → length (set_axes 0 m six) ≡ length (set_bits m)
six-axes-bits m six h = axes-bits 0 m six ∙ ap (λ (k : ℕ). length (set_from k 0 m)) h

bits-few : (k i m : ℕ) → length (set_from k i m) ≤ k
bits-few zero i m = omega arith
bits-few (suc k) i m = go (eqb (m % 2) 1) (bits-few k (suc i) (m / 2))
  where
    bits : List ℕ
    bits = set_from k (suc i) (m / 2)

    go : (b : Bool) → length bits ≤ k → length {A = ℕ} (elim b [ true ↦ i ∷ bits | false ↦ bits ]) ≤ suc k
    go true h = omega arith
    go false h = omega arith

pub six-bits : (m : ℕ) → length (set_bits m) ≤ 6
six-bits m = bits-few 6 0 m
