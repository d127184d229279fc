-- Every call, from words or from typed values, whatever was lent, ends in a verdict:
-- `call-verdict`.
use Prim.Native.Nat.{ℕ, zero, suc, ◌/◌, ◌%◌, ◌≤◌}
use mathlib.Core.Path.{sym, subst}
use mathlib.Core.Bool.{Bool, true, false}
use mathlib.Core.List.{List, [], ◌∷◌}
use native.Mathlib.Omega.{arith}
use lib.Dec.{eqb}
use lib.IntN.{ℤ}
use Rattle.model.specs.declared.Axis.{Axis}
use Rattle.model.specs.declared.Order.TheVariants.{Forwards}
use Rattle.model.specs.planning.Job.{Job, JobAxis, set_from, set_axes, set_bits}
use Rattle.model.specs.planning.Admission.{Input, words, typed, planning_rules}
use Rattle.model.specs.planning.Outcome.{call, outcome_after}
use Rattle.theorems.specs.Spelling.{AxesInWords}
use Rattle.theorems.specs.Verdict.{Refuses, Verdict, CallVerdict}
use Rattle.theorems.proofs.jobs.Masks.{Ascends, ascends-from}
use Rattle.theorems.proofs.jobs.Verdict.{verdict, is-refusal}
use Rattle.theorems.proofs.jobs.Admissions.{IsJob, after-admission}

-- ---- the numbers of the axes ascend

abbrev Rising : ℕ → List ℕ → Type 0
Rising k [] = Unit {0}
Rising k (n ∷ ns) = (k ≤ n) × Rising (suc n) ns

rising-from : (k l : ℕ) (ns : List ℕ) → k ≤ l → Rising l ns → Rising k ns
rising-from k l [] h a = tt
rising-from k l (n ∷ ns) h a = (omega (arith, a.0), a.1)

set-rising : (c i m : ℕ) → Rising i (set_from c i m)
set-rising zero i m = tt
set-rising (suc c) i m = go (eqb (m % 2) 1) (set-rising c (suc i) (m / 2))
  where
    go : (b : Bool) → Rising (suc i) (set_from c (suc i) (m / 2))
        → Rising i
        (elim b as (λ z. List ℕ) [ true ↦ i ∷ set_from c (suc i) (m / 2) | false ↦ set_from c (suc i) (m / 2) ])
    go true h = (omega arith, h)
    go false h = rising-from i (suc i) (set_from c (suc i) (m / 2)) (omega arith) h

pub set-ascends : (i m : ℕ) (six : List Axis) → Ascends i (set_axes i m six)
set-ascends i m [] = tt
set-ascends i m (x ∷ six) = go (eqb (m % 2) 1) (set-ascends (suc i) (m / 2) six)
  where
    go : (b : Bool) → Ascends (suc i) (set_axes (suc i) (m / 2) six)
        → Ascends i (elim b as (λ z. List JobAxis) [
          | true ↦ record { number = i; axis = x } ∷ set_axes (suc i) (m / 2) six
          | false ↦ set_axes (suc i) (m / 2) six
        ])
    go true h = (omega arith, h)
    go false h = ascends-from i (suc i) (set_axes (suc i) (m / 2) six) (omega arith) h

axes-ascend : (ns : List ℕ) (xs : List JobAxis) (l : ℕ) → Rising l ns → AxesInWords ns xs → Ascends l xs
axes-ascend [] [] l r h = tt
axes-ascend [] (x ∷ xs) l r h = absurd h
axes-ascend (n ∷ ns) [] l r h = absurd h
axes-ascend (n ∷ ns) (x ∷ xs) l (r, rs) (e, (h, hs)) =
    (omega (arith, e, r), axes-ascend ns xs (suc x.number) (subst (λ (k : ℕ). Rising (suc k) ns) (sym e) rs) hs)

-- ---- the calls

-- the numbers of its axes ascend
ascends : (q : Input) (j : Job) → IsJob q j → Ascends 0 j.axes
ascends (words ws) j a = let s = a.1.1.inside in
    axes-ascend (set_bits j.mask) j.axes 0 (set-rising 6 0 j.mask) s.axes
ascends (typed t) j e = subst (λ (i : Job). Ascends 0 i.axes) e (set-ascends 0 t.mask t.axes)

pub call-verdict : (q : Input) (lent : List ℤ) → CallVerdict Forwards lent (call q lent) q
call-verdict q lent =
    after-admission planning_rules (outcome_after lent) (λ o n p. Refuses o n p 0 0 lent)
    (λ o j. Verdict Forwards j lent o) (λ n p. is-refusal) q
    (λ j a. verdict j lent (ascends q j a))
