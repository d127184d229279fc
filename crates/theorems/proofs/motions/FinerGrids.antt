-- Finer motors gain no time: the arrivals that an axis reaches with velocities on a grid f times
-- finer are those of its own grid, and so for all axes together, with and without windows.
use Prim.Native.Nat.{ℕ, ◌≤◌, ◌<◌}
use mathlib.Core.Path.{◌≡◌}
use mathlib.Core.Bool.{true}
use mathlib.Core.Logic.{◌↔◌}
use native.Mathlib.Omega.{arith}
use lib.IntN.{pos, ◌*ℤ◌}
use Rattle.whole.proofs.Tests.{T_true, true-T}
use Rattle.model.specs.declared.Axis.{Axis}
use Rattle.model.specs.planning.Quantities.{delay, speed_steps}
use Rattle.model.specs.planning.Leg.{Feasible}
use Rattle.model.specs.planning.Motion.{Reachable, leg, displacement, landing_velocity, arrival_velocity}
use Rattle.model.specs.planning.Job.{Job, JobAxis}
use Rattle.model.specs.planning.Refusals.{last_tick, Passed, AllPassed}
use Rattle.model.specs.planning.Outcome.{arrives}
use Rattle.theorems.specs.Verdict.{Among, AllReachable, Arrives}
use Rattle.theorems.specs.Finer.{finer_leg, ReachableOn, AllReachableOn, ArrivesOn, IsLeast, SameArrivals}
use Rattle.theorems.specs.Finer.{FinerGainsNothing}
use Rattle.theorems.proofs.motions.Grid.{speed-range, acceleration-some}
use Rattle.theorems.proofs.jobs.PassedAxis.{speed-limit, some-acceleration}
use Rattle.theorems.proofs.legs.WholeSum.{sum-is-whole}
use Rattle.theorems.proofs.motions.FinerLeg.{size-times, finer-feasible}
use Rattle.theorems.proofs.jobs.LeastTick.{Least, least-is, none_is}
use Rattle.theorems.proofs.jobs.Verdict.{passed-among, arrives-is, is-arrives}

-- ---- one axis

pub finer-reaches : (f : ℕ) (x : Axis) (n : ℕ) → 1 ≤ f → Passed x → ReachableOn f x n ↔ Reachable x n
finer-reaches f x n hf p = (
  λ r.
      record {
        after = r.after;
        landed = (size-times f (speed_steps x) (landing_velocity x n) hf).0 r.landed;
        arrived = (size-times f (speed_steps x) (arrival_velocity x n) hf).0 r.arrived;
        moves = (moves r.after).0 r.moves;
      },
  λ r.
      record {
        after = r.after;
        landed = (size-times f (speed_steps x) (landing_velocity x n) hf).1 r.landed;
        arrived = (size-times f (speed_steps x) (arrival_velocity x n) hf).1 r.arrived;
        moves = (moves r.after).1 r.moves;
      },
)
  where
    moves : delay x < n → Feasible (finer_leg f (leg x n)) (pos f *ℤ displacement x n)
        ↔ Feasible (leg x n) (displacement x n)
    moves h =
        finer-feasible f (leg x n) (displacement x n) hf (omega arith) (acceleration-some x (some-acceleration x p))
        (speed-range x (speed-limit x p))
        (true-T (sum-is-whole x n))

-- ---- the least of the same arrivals

same-arrivals : (P Q : ℕ → Type 0) → ((n : ℕ) → P n ↔ Q n) → SameArrivals P Q
same-arrivals P Q s =
    record {
      same = s;
      least = λ n. (
        λ l. record { first = l.first; holds = (s n).0 l.holds; least = λ k a b q. l.least k a b ((s k).1 q) },
        λ l. record { first = l.first; holds = (s n).1 l.holds; least = λ k a b q. l.least k a b ((s k).0 q) },
      );
    }

-- ---- all axes of a job

module _ (f : ℕ) (hf : 1 ≤ f) (j : Job) (p : AllPassed j.axes) where
  each : (x : JobAxis) → Among j.axes x → (n : ℕ) → ReachableOn f x.axis n ↔ Reachable x.axis n
  each x m n = finer-reaches f x.axis n hf (passed-among j.axes p x m)

  together : (n : ℕ) → AllReachableOn f j.axes n ↔ AllReachable j.axes n
  together n = (λ r x m. (each x m n).0 (r x m), λ r x m. (each x m n).1 (r x m))

  in-windows : (n : ℕ) → ArrivesOn f j n ↔ Arrives j n
  in-windows n = (
    λ a. record { fits = a.fits; reached = (together n).0 a.reached },
    λ a. record { fits = a.fits; reached = (together n).1 a.reached },
  )

  -- the decision of planning, on the finer grid
  decided : (n : ℕ) → ArrivesOn f j n → arrives j n ≡ true
  decided n a = T_true (arrives j n) (is-arrives j n p ((in-windows n).0 a))

  found : (n : ℕ) → Least (arrives j) 1 last_tick n → IsLeast (ArrivesOn f j) n
  found n l =
      record {
        first = l.first;
        holds = (in-windows n).1 (arrives-is j n p (true-T l.passes));
        least = λ k a b r. l.least k a b (decided k r);
      }

pub finer-gains-nothing : FinerGainsNothing
finer-gains-nothing f j hf p =
    record {
      each = λ x m. same-arrivals (ReachableOn f x.axis) (Reachable x.axis) (each f hf j p x m);
      together = same-arrivals (AllReachableOn f j.axes) (AllReachable j.axes) (together f hf j p);
      in_windows = same-arrivals (ArrivesOn f j) (Arrives j) (in-windows f hf j p);
      found = λ n e. found f hf j p n (least-is (arrives j) 1 last_tick n e);
      missed = λ e n a b r. none_is (arrives j) 1 last_tick e n a (omega arith) (decided f hf j p n r);
    }
