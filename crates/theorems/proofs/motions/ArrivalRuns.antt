-- The arrivals that an axis reaches are one run of ticks, and so are those that all axes of a
-- job reach (docs/METHOD.md, 3.7).
use Prim.Native.Nat.{ℕ, ◌≤◌}
use mathlib.Core.Path.{◌≡◌}
use mathlib.Core.Bool.{true}
use mathlib.Core.List.{List}
use native.Mathlib.Omega.{arith}
use Rattle.whole.proofs.Tests.{T_true, true-T}
use Rattle.model.specs.declared.Axis.{Axis}
use Rattle.model.specs.planning.Job.{JobAxis}
use Rattle.model.specs.planning.Refusals.{Passed, AllPassed}
use Rattle.model.specs.planning.Outcome.{all_reach}
use Rattle.theorems.specs.Verdict.{AllReachable}
use Rattle.theorems.specs.Threshold.{OneRun, ReachGoesOn, ArrivalsAreRuns}
use Rattle.theorems.proofs.motions.Threshold.{reach-goes-on, slow-between, slow-of, reach-is-a-threshold}
use Rattle.theorems.proofs.jobs.Verdict.{passed-among, all-reach, reach-all}

goes_on : (x : Axis) → Passed x → ReachGoesOn x
goes_on x p =
    record {
      next = reach-goes-on x p;
      slow = slow-between x p;
      threshold = reach-is-a-threshold x p;
      reached = λ i n k _ a b r s. reach-is-a-threshold x p i n k a b (slow-of x p k s) r;
    }

together : (xs : List JobAxis) → AllPassed xs → OneRun 0 (AllReachable xs)
together xs p i n k f a b r s x m = (goes_on x.axis (passed-among xs p x m)).reached i n k f a b (r x m) (s x m)

pub arrivals-are-runs : ArrivalsAreRuns
arrivals-are-runs j p =
    record { each = λ x m. goes_on x.axis (passed-among j.axes p x m); together = together j.axes p }

-- the same of the decision
pub all-between : (xs : List JobAxis) → AllPassed xs → (i n k : ℕ) → i ≤ n → n ≤ k → all_reach xs i ≡ true
    → all_reach xs k ≡ true → all_reach xs n ≡ true
all-between xs p i n k a b d e =
    T_true (all_reach xs n)
    (reach-all xs n p
    (together xs p i n k (omega arith) a b (all-reach xs i p (true-T d)) (all-reach xs k p (true-T e))))
