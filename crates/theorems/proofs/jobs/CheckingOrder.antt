-- The list of numbered tests of an axis: which numbers it lacks, and what axes have
-- that none of its tests refuses.
use Prim.Native.Nat.{ℕ}
use mathlib.Core.Path.{◌≡◌, refl}
use mathlib.Core.Bool.{Bool, true, false, not, ◌&&◌, false≢true}
use mathlib.Core.List.{List, [], ◌∷◌}
use lib.Dec.{eqb}
use borrow.Author.Tests.{eqb-false}
use Rattle.model.specs.planning.Job.{JobAxis}
use Rattle.model.specs.planning.Refusals.{AllPassed}
use Rattle.model.specs.planning.Admission.{Tests, axis_refusals}
use Rattle.theorems.proofs.jobs.Verdict.{none-refused, all-passed}
use Rattle.theorems.proofs.jobs.OutsideWindows.{Clear}

-- no test of a list has number k
abbrev pub Lacks : ℕ → Tests → Type 0
Lacks k [] = Unit
Lacks k (t ∷ ts) = (t.0 ≡ k → ⊥) × Lacks k ts

-- by looking at each
abbrev pub none_is : ℕ → Tests → Bool
none_is k [] = true
none_is k (t ∷ ts) = not (eqb t.0 k) && none_is k ts

pub lacks : (k : ℕ) (ts : Tests) → none_is k ts ≡ true → Lacks k ts
lacks k [] e = tt
lacks k (t ∷ ts) e = go (eqb t.0 k) refl e (lacks k ts)
  where
    go : (b : Bool) → eqb t.0 k ≡ b → not b && none_is k ts ≡ true
        → (none_is k ts ≡ true → Lacks k ts) → Lacks k (t ∷ ts)
    go true q e h = absurd (false≢true e)
    go false q e h = (eqb-false t.0 k q, h e)

pub clear-passed : (xs : List JobAxis) → Clear axis_refusals xs → AllPassed xs
clear-passed xs (l, (d, (b, (s, (v, (a, (f, _))))))) =
    all-passed xs (none-refused _ xs l) (none-refused _ xs d) (none-refused _ xs b) (none-refused _ xs s)
    (none-refused _ xs v) (none-refused _ xs a)
    (none-refused _ xs f)
