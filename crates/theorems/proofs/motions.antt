-- The planned motion of an axis, and the arrivals that it reaches.

-- How many grid steps are in a fine step.
pub mod Grid
-- A leg on a finer grid can be made exactly where it can on its own.
pub mod FinerLeg
-- Finer motors gain no time.
pub mod FinerGrids
-- How far a list of velocities travels.
pub mod Travel
-- Rule 1 over a list of accelerations.
pub mod PlannedMotion
-- From the landing tick on the planned motion is the planned target.
pub mod PlannedTarget
-- `reachable` is the existence of a list.
pub mod Reaches
-- Reach goes on, and is a threshold while the target is slow enough.
pub mod Threshold
-- The arrivals that all axes reach are one run of ticks.
pub mod ArrivalRuns
