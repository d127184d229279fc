-- The theorems, by subject, each folder standing on those before it where it needs them.

-- Velocities between two ends under limits.
pub mod legs
-- The planned motion of an axis, and the arrivals that it reaches.
pub mod motions
-- Rows and cells: landing, carry, start, limits and sway.
pub mod tables
-- All axes of a job: masks, refusals, windows, and what each number says.
pub mod jobs
-- Words: their one spelling, and the first wrong one.
pub mod words
-- The other calls.
pub mod calls
