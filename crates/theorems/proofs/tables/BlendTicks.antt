-- The planned ticks of a row's blend: tick 0, and the tick h before tick k, for any delay h.
use Prim.Native.Nat.{ℕ, ◌+◌, ◌-◌, ◌<◌}
use mathlib.Core.Path.{◌≡◌, ap, ◌∙◌}
use native.Mathlib.Omega.{arith}
use lib.ListN.{replicate}
use Rattle.whole.proofs.Tests.{lt-choice, le-choice}
use Rattle.model.specs.declared.Axis.{Axis}
use Rattle.model.specs.planning.Quantities.{delay}
use Rattle.model.specs.planning.Leg.{chosen}
use Rattle.model.specs.planning.Motion.{leg, required_sum, earlier, changes_from, start_position, start_velocity}
use Rattle.model.specs.planning.Motion.{landing_acceleration}
use Rattle.model.specs.planning.Rows.{PlannedAxis, planned_axis, tick_at, tick_back}
use Rattle.theorems.proofs.motions.PlannedMotion.{run-first}

-- tick 0 is the start
pub tick-start : (x : Axis) (n : ℕ) → ((tick_at (planned_axis n x) 0).position ≡ start_position x)
    × ((tick_at (planned_axis n x) 0).velocity ≡ start_velocity x)
tick-start x n =
    run-first (start_position x) (start_velocity x)
    (changes_from (start_velocity x) (chosen (leg x n) (required_sum x n)))
    (landing_acceleration x n) (replicate (delay x) (landing_acceleration x n)) (earlier x 0)

-- before tick h it is before tick 0
pub tick-before : (t : PlannedAxis) (k h : ℕ) → k < h → tick_back t k h ≡ earlier t.axis (h - k)
tick-before t k h q = lt-choice k h (earlier t.axis (h - k)) (tick_at t (k - h)) q

pub tick-after : (t : PlannedAxis) (k h j : ℕ) → k ≡ h + j → tick_back t k h ≡ tick_at t j
tick-after t k h j e =
    le-choice k h (earlier t.axis (h - k)) (tick_at t (k - h)) (omega arith) ∙ ap (tick_at t) (omega arith)
