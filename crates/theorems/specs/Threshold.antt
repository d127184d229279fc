-- Reach goes on (docs/METHOD.md, 3.7): what holds of the arrivals that an axis reaches, and of
-- those that all axes of a job reach, by the existence of a list (rule 4) and not by the decision.
-- The theorem `arrivals-are-runs` says it of every job whose axes pass the refusals of one axis.
use Rattle.std.specs.Prelude.{ℕ, suc, ◌≤◌, nat_abs}
use Rattle.model.specs.declared.Axis.{Axis}
use Rattle.model.specs.planning.Quantities.{delay, speed_steps}
use Rattle.model.specs.planning.Motion.{Reachable, landing_velocity, arrival_velocity}
use Rattle.model.specs.planning.Job.{Job, JobAxis}
use Rattle.model.specs.planning.Refusals.{AllPassed}
use Rattle.theorems.specs.Verdict.{Among, AllReachable}

-- the target is slow enough for arrival n: what rule 4 asks of the planned velocities at
-- the landing and at the arrival
pub record Slow (x : Axis) (n : ℕ) : Type 0 where
  pub landed : nat_abs (landing_velocity x n) ≤ speed_steps x
  pub arrived : nat_abs (arrival_velocity x n) ≤ speed_steps x

-- from a first tick on, Q holds of one run of ticks: where it holds of two, it holds of all between
-- them
abbrev pub OneRun : ℕ → (ℕ → Type 0) → Type 0
OneRun first Q = (i n k : ℕ) → first ≤ i → i ≤ n → n ≤ k → Q i → Q k → Q n

-- of one axis
pub record ReachGoesOn (x : Axis) : Type 0 where
  -- from an arrival that is reached to the next one, unless the target is too fast by then
  pub next : (n : ℕ) → Slow x (suc n) → Reachable x n → Reachable x (suc n)
  -- the arrivals at which the target is slow enough are one run
  pub slow : OneRun (delay x) (Slow x)
  -- in this run reach is a threshold: after an arrival that is reached all of the run are
  pub threshold : (n j k : ℕ) → n ≤ j → j ≤ k → Slow x k → Reachable x n → Reachable x j
  -- the arrivals that are reached are one run
  pub reached : OneRun 0 (Reachable x)

-- of a job: each axis, and what all of them reach
pub record ArrivalRuns (j : Job) : Type 0 where
  pub each : (x : JobAxis) → Among j.axes x → ReachGoesOn x.axis
  pub together : OneRun 0 (AllReachable j.axes)

abbrev pub ArrivalsAreRuns : Type 0
ArrivalsAreRuns = (j : Job) → AllPassed j.axes → ArrivalRuns j
