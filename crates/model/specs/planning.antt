-- What the two planning calls mean, in reading order.

-- Axes, targets, the grid: the letters of the method.
pub mod Quantities
-- The second weight of damping as measured.
pub mod Damping
-- Velocities between two ends under limits: rules 4 and 5.
pub mod Leg
-- The planned motion of an axis: rules 1 to 3, and whether it reaches an arrival.
pub mod Motion
-- The blend, the cells and the rows.
pub mod Rows
-- The windows of a job: which arrivals fit, and refusal 13.
pub mod Windows
-- A job: mask, asked arrival, axes, windows.
pub mod Job
-- The words that spell a job, and refusals 1, 2 and 14.
pub mod Words
-- The refusals of one axis: 4, 12, 5, 15, 6, 16 and 17.
pub mod Refusals
-- The first refusal of a job before its arrival is looked for, or the job: what every call
-- goes on from. Refusals 3 and 13.
pub mod Admission
-- How a refusal is told.
pub mod Told
-- The answer to a call and its table; refusals 8, 9 and 10.
pub mod Outcome
-- Demand 3: what holds of every accepted job's table.
pub mod Demand
