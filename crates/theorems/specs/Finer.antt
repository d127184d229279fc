-- Planned velocities on a grid f times finer than the axis's own, with the limits
-- unchanged (docs/METHOD.md, 5.4). The theorem `finer-gains-nothing` says that the same
-- arrivals can be reached on it.
use Rattle.std.specs.Prelude.{ℕ, ◌*◌, ◌≤◌, ◌<◌, ◌≡◌, true, List, ◌↔◌, pos, nat_abs, ◌*ℤ◌}
use Rattle.std.specs.Prelude.{None, Some, IfSome}
use Rattle.model.specs.declared.Axis.{Axis}
use Rattle.model.specs.planning.Quantities.{delay, speed_steps}
use Rattle.model.specs.planning.Leg.{Leg, Feasible}
use Rattle.model.specs.planning.Motion.{Reachable, leg, displacement, landing_velocity, arrival_velocity}
use Rattle.model.specs.planning.Windows.{brought}
use Rattle.theorems.specs.Windows.{FitsOne}
use Rattle.model.specs.planning.Job.{Job, JobAxis}
use Rattle.model.specs.planning.Refusals.{last_tick, AllPassed}
use Rattle.model.specs.planning.Outcome.{least_from, arrives}
use Rattle.theorems.specs.Verdict.{Among, AllReachable, Arrives}

-- ---- rule 4 on the finer grid

-- a leg in steps f times finer: the same ends and limits are f times as many steps
abbrev pub finer_leg : ℕ → Leg → Leg
finer_leg f g =
    record {
      ticks = g.ticks;
      start = pos f *ℤ g.start;
      end = pos f *ℤ g.end;
      speed_limit = f * g.speed_limit;
      acceleration_limit = f * g.acceleration_limit;
    }

-- rule 4 with a list of whole velocities of the finer grid
pub record ReachableOn (f : ℕ) (x : Axis) (n : ℕ) : Type 0 where
  pub after : delay x < n
  pub landed : nat_abs (pos f *ℤ landing_velocity x n) ≤ f * speed_steps x
  pub arrived : nat_abs (pos f *ℤ arrival_velocity x n) ≤ f * speed_steps x
  pub moves : Feasible (finer_leg f (leg x n)) (pos f *ℤ displacement x n)

abbrev pub AllReachableOn : ℕ → List JobAxis → ℕ → Type 0
AllReachableOn f xs n = (x : JobAxis) → Among xs x → ReachableOn f x.axis n

-- every axis reaches tick n on its finer grid, and it fits a window where the job brings some
pub record ArrivesOn (f : ℕ) (j : Job) (n : ℕ) : Type 0 where
  pub fits : IfSome j.windows (λ w. FitsOne n w.dwell (brought w))
  pub reached : AllReachableOn f j.axes n

-- ---- the claim

-- n is the least tick from 1 on of which Q holds
pub record IsLeast (Q : ℕ → Type 0) (n : ℕ) : Type 0 where
  pub first : 1 ≤ n
  pub holds : Q n
  pub least : (k : ℕ) → 1 ≤ k → k < n → Q k → ⊥

-- P and Q hold of the same arrivals, and so the least is the same
pub record SameArrivals (P Q : ℕ → Type 0) : Type 0 where
  pub same : (n : ℕ) → P n ↔ Q n
  pub least : (n : ℕ) → IsLeast P n ↔ IsLeast Q n

-- the arrivals of the finer grid are those of the axes' own grids: for each axis, for all together,
-- and in the windows of the job; the arrival that planning finds is the least of the finer grid
-- too, and where planning finds none to 4,096 the finer grid has none
pub record GainsNothing (f : ℕ) (j : Job) : Type 0 where
  pub each : (x : JobAxis) → Among j.axes x → SameArrivals (ReachableOn f x.axis) (Reachable x.axis)
  pub together : SameArrivals (AllReachableOn f j.axes) (AllReachable j.axes)
  pub in_windows : SameArrivals (ArrivesOn f j) (Arrives j)
  pub found : (n : ℕ) → least_from (arrives j) 1 last_tick ≡ Some n → IsLeast (ArrivesOn f j) n
  pub missed : least_from (arrives j) 1 last_tick ≡ None → (n : ℕ) → 1 ≤ n → n ≤ 4096 → ArrivesOn f j n → ⊥

-- for every f from 1 up, and every job whose axes pass the refusals of one axis
abbrev pub FinerGainsNothing : Type 0
FinerGainsNothing = (f : ℕ) (j : Job) → 1 ≤ f → AllPassed j.axes → GainsNothing f j
