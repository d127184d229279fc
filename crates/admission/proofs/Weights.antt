-- Axes of which no weight is to be worked out are the axes with their weights given, and these
-- pass and reach what the axes do.
use Prim.Native.Nat.{ℕ, suc, ◌+◌, ◌/◌, ◌%◌, ◌<◌}
use mathlib.Core.Path.{◌≡◌, refl, sym, ap, ap₂, subst, ◌∙◌}
use mathlib.Core.Bool.{Bool, true, false, cond, false≢true}
use mathlib.Core.List.{List, [], ◌∷◌, ◌++◌}
use lib.Dec.{eqb}
use lib.ListN.{length, take, drop}
use borrow.Author.Tests.{eq-eqb, ne_eqb}
use Rattle.model.specs.declared.Axis.{Axis}
use Rattle.model.specs.planning.Job.{JobAxis, set_axes}
use Rattle.theorems.specs.GivenWeights.{with_weight, axes_with_weight}
use Rattle.model.specs.planning.Refusals.{AllPassed}
use Rattle.model.specs.planning.Outcome.{all_reach}
use Rattle.theorems.proofs.jobs.GivenWeights.{passed-with-weight, reach-with-weight}
use Rattle.motion.specs.Motions.{measured}
use Rattle.motion.proofs.WeightGiven.{given_is}
use Rattle.model.proofs.SetAxes.{pick, from, axis_at, from_more}
use Rattle.admission.specs.Admitting.{any_measured, named_with_weight}

-- ---- none is measured

pub given-are : (i m : ℕ) (xs : List Axis) → any_measured (set_axes i m xs) ≡ false → xs ≡ named_with_weight m xs
given-are i m [] e = refl
given-are i m (x ∷ xs) e = go (eqb (m % 2) 1) e (given-are (suc i) (m / 2) xs)
  where
    named : (b : Bool) → measured x ≡ b → cond b true (any_measured (set_axes (suc i) (m / 2) xs)) ≡ false
        → (any_measured (set_axes (suc i) (m / 2) xs) ≡ false → xs ≡ named_with_weight (m / 2) xs)
        → x ∷ xs ≡ with_weight x ∷ named_with_weight (m / 2) xs
    named true t e h = absurd (false≢true (sym e))
    named false t e h = ap₂ (λ (y : Axis) (ys : List Axis). y ∷ ys) (given_is x t) (h e)

    go : (b : Bool) → any_measured (pick b i x (set_axes (suc i) (m / 2) xs)) ≡ false
        → (any_measured (set_axes (suc i) (m / 2) xs) ≡ false → xs ≡ named_with_weight (m / 2) xs)
        → x ∷ xs ≡ cond b (with_weight x) x ∷ named_with_weight (m / 2) xs
    go true e h = named (measured x) refl e h
    go false e h = ap (λ (ys : List Axis). x ∷ ys) (h e)

-- ---- one by one: whether one is measured

module _ (six : List Axis) where
  -- the axes from number i on, m being the bits from there on
  abbrev pub measured_on : ℕ → ℕ → Bool
  measured_on i m = any_measured (from i m six)

  measured-more : (i m : ℕ) → i < length six → (b : Bool) → eqb (m % 2) 1 ≡ b
      → measured_on i m ≡ any_measured (pick b i (axis_at six i) (from (i + 1) (m / 2) six))
  measured-more i m h b e =
      ap any_measured (from_more i m six h ∙ ap (λ (q : Bool). pick q i (axis_at six i) (from (i + 1) (m / 2) six)) e)

  measured-named : (i m : ℕ) → i < length six → m % 2 ≡ 1 → (b : Bool) → measured (axis_at six i) ≡ b
      → measured_on i m ≡ cond b true (measured_on (i + 1) (m / 2))
  measured-named i m h e b f =
      measured-more i m h true (eq-eqb (m % 2) 1 e) ∙ ap (λ (q : Bool). cond q true (measured_on (i + 1) (m / 2))) f

  pub measured_later : (i m : ℕ) → i < length six → m % 2 ≡ 1 → measured (axis_at six i) ≡ false
      → measured_on i m ≡ measured_on (i + 1) (m / 2)
  measured_later i m h e f = measured-named i m h e false f

  pub measured_unnamed : (i m : ℕ) → i < length six → (m % 2 ≡ 1 → ⊥) → measured_on i m ≡ measured_on (i + 1) (m / 2)
  measured_unnamed i m h e = measured-more i m h false (ne_eqb (m % 2) 1 e)

-- ---- one by one: the weights

-- the first i axes, and after them the others with those by hand that m names
abbrev pub hand_from : ℕ → ℕ → List Axis → List Axis
hand_from i m l = take i l ++ named_with_weight m (drop i l)

-- ---- the axes of a mask

set-with-weight : (i m : ℕ) (xs : List Axis)
    → set_axes i m (named_with_weight m xs) ≡ axes_with_weight (set_axes i m xs)
set-with-weight i m [] = refl
set-with-weight i m (x ∷ xs) = go (eqb (m % 2) 1) (set-with-weight (suc i) (m / 2) xs)
  where
    go : (b : Bool) → set_axes (suc i) (m / 2) (named_with_weight (m / 2) xs)
        ≡ axes_with_weight (set_axes (suc i) (m / 2) xs)
        → pick b i (cond b (with_weight x) x) (set_axes (suc i) (m / 2) (named_with_weight (m / 2) xs))
        ≡ axes_with_weight (pick b i x (set_axes (suc i) (m / 2) xs))
    go true h = ap (λ (l : List JobAxis). record { number = i; axis = with_weight x } ∷ l) h
    go false h = h

module _ (m : ℕ) (axes given : List Axis) (is : given ≡ named_with_weight m axes) where
  pub axes-given : set_axes 0 m given ≡ axes_with_weight (set_axes 0 m axes)
  axes-given = ap (set_axes 0 m) is ∙ set-with-weight 0 m axes

  pub given-passed : AllPassed (set_axes 0 m axes) → AllPassed (set_axes 0 m given)
  given-passed p = subst AllPassed (sym axes-given) (passed-with-weight (set_axes 0 m axes) p)

  pub given-reaches : (n : ℕ) → all_reach (set_axes 0 m given) n ≡ all_reach (set_axes 0 m axes) n
  given-reaches n = ap (λ (l : List JobAxis). all_reach l n) axes-given ∙ reach-with-weight (set_axes 0 m axes) n
