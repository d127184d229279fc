-- The axes of a mask that have passed the refusals of one axis and reach the arrival: each can be
-- planned.
use mathlib.Core.Path.{◌≡◌, refl, sym, subst}
use mathlib.Core.Bool.{Bool, true, false}
use mathlib.Core.List.{List, [], ◌∷◌}
use Prim.Native.Nat.{ℕ, suc, ◌+◌, ◌/◌, ◌%◌, ◌<◌, ◌≤◌}
use native.Mathlib.Numerals.{add-one}
use lib.ListN.{length, get_or, drop}
use lib.Seq.{drop-cons}
use lib.Dec.{eqb}
use Rattle.model.specs.declared.Axis.{Axis}
use Rattle.model.specs.planning.Motion.{reachable}
use Rattle.model.specs.planning.Job.{JobAxis, set_axes, unset_axis}
use Rattle.model.specs.planning.Outcome.{all_reach}
use Rattle.model.specs.planning.Refusals.{last_tick, AllPassed, Plannable}
use Rattle.planned.specs.Plans.{arrival_of, PlanRanges}
use Rattle.rows.specs.Plans.{plans_for, Each}
use Rattle.planned.proofs.PlannableAxis.{plan-ranges, plan-arrives}

-- ---- a list of axes

abbrev pub AllPlannable : ℕ → List JobAxis → Type 0
AllPlannable n [] = Unit
AllPlannable n (x ∷ xs) = Plannable x.axis n × AllPlannable n xs

pub all-plannable : (n : ℕ) (xs : List JobAxis) → AllPassed xs → n ≤ last_tick → all_reach xs n ≡ true
    → AllPlannable n xs
all-plannable n [] p h e = tt
all-plannable n (x ∷ xs) p h e =
    let b = both (reachable x.axis n) e in
    (record { passed = p.0; tick = h; reach = b.0 }, all-plannable n xs p.1 h b.1)
  where
    both : (r : Bool) → (elim r as (λ _. Bool) [ true ↦ all_reach xs n | false ↦ false ]) ≡ true
        → (r ≡ true) × (all_reach xs n ≡ true)
    both true q = (refl, q)
    both false q = absurd (mathlib.Core.Bool.false≢true q)

-- the first axis of a list, where its bit is set, and the others
plannable-first : (n i m : ℕ) (x : Axis) (xs : List Axis) → AllPlannable n (set_axes i m (x ∷ xs))
    → (eqb (m % 2) 1 ≡ true → Plannable x n) × AllPlannable n (set_axes (suc i) (m / 2) xs)
plannable-first n i m x xs = go (eqb (m % 2) 1)
  where
    axes : List JobAxis
    axes = set_axes (suc i) (m / 2) xs

    go : (b : Bool) → AllPlannable n
        (elim b as (λ _. List JobAxis) [ true ↦ record { number = i; axis = x } ∷ axes | false ↦ axes ])
        → (b ≡ true → Plannable x n) × AllPlannable n axes
    go true r = ((λ e. r.0), r.1)
    go false r = ((λ e. absurd (mathlib.Core.Bool.false≢true e)), r)

-- axis i of six, where its bit is the lowest of the mask's rest
module _ (n i rest : ℕ) (axes : List Axis) (here : i < length axes)
    (plannable : AllPlannable n (set_axes i rest (drop i axes))) where
  parted : (eqb (rest % 2) 1 ≡ true → Plannable (get_or axes i unset_axis) n)
      × AllPlannable n (set_axes (suc i) (rest / 2) (drop (suc i) axes))
  parted =
      plannable-first n i rest (get_or axes i unset_axis) (drop (suc i) axes)
      (subst (λ (l : List Axis). AllPlannable n (set_axes i rest l)) (drop-cons axes i unset_axis here) plannable)

  pub plannable-here : eqb (rest % 2) 1 ≡ true → Plannable (get_or axes i unset_axis) n
  plannable-here = parted.0

  pub plannable-next : AllPlannable n (set_axes (i + 1) (rest / 2) (drop (i + 1) axes))
  plannable-next = subst (λ (j : ℕ). AllPlannable n (set_axes j (rest / 2) (drop j axes))) (sym (add-one i)) parted.1

-- ---- their plans

pub all-ranged : (n : ℕ) (xs : List JobAxis) → AllPlannable n xs → Each PlanRanges (plans_for n xs)
all-ranged n [] r = tt
all-ranged n (x ∷ xs) r = (plan-ranges r.0, all-ranged n xs r.1)

pub all-arrive : (n : ℕ) (xs : List JobAxis) → AllPlannable n xs → Each (λ p. n ≤ arrival_of p) (plans_for n xs)
all-arrive n [] r = tt
all-arrive n (x ∷ xs) r = (plan-arrives r.0, all-arrive n xs r.1)
