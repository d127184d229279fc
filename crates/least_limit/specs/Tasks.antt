-- The task of an axis and an arrival.
use Rattle.std.specs.Prelude.{ℕ, ◌*◌, ◌≤◌, ◌<◌, max, ◌≡◌, ℤ, nat_abs, ◌-ℤ◌}
use Rattle.std.specs.Int.Signed.{shr_z}
use Rattle.model.specs.declared.Axis.{Axis}
use Rattle.model.specs.planning.Quantities.{fine_steps, speed_limit, acceleration_limit, finer}
use Rattle.model.specs.planning.Motion.{reachable}
use Rattle.model.specs.calls.Raises.{with_limits}
use Rattle.least_limit.specs.declared.Task.{Task}
use Rattle.least_limit.specs.Limits.{enough, TaskRanged}

-- from velocity s to e in so many ticks, over d half steps; what is required is as rule 5 has it
abbrev pub task_with : Axis → ℤ → ℤ → ℤ → ℕ → ℕ → Task
task_with x s e d ticks fastest =
    record {
      start = s;
      end = e;
      ticks = ticks;
      fastest = fastest;
      sum = shr_z (d -ℤ s -ℤ e) 2;
      steps = finer x * fine_steps;
      speed = speed_limit x;
      acceleration = acceleration_limit x;
    }

-- the greatest speed at the start, at the landing and at the arrival
abbrev pub fastest_of : ℤ → ℤ → ℤ → ℕ
fastest_of s e w = max (nat_abs s) (max (nat_abs e) (nat_abs w))

-- t decides for every pair of limits whether the axis reaches n with them
pub record TaskIs (x : Axis) (n : ℕ) (t : Task) : Type 0 where
  pub ranged : TaskRanged t
  pub speed : t.speed ≡ speed_limit x
  pub acceleration : t.acceleration ≡ acceleration_limit x
  pub decides : (l m : ℕ) → l ≤ 1048576 → 0 < m → reachable (with_limits l m x) n ≡ enough t l m
