-- Velocities between two ends under limits (docs/METHOD.md, rules 4 and 5).

-- The envelopes: every list that meets rule 4 lies between them.
pub mod Envelopes
-- The cruise is the largest whose sum does not exceed the required one.
pub mod CruiseIsLargest
-- The remainder: raising ticks that rise keeps the limits.
pub mod RaisedList
-- The tests of `feasible`, taken apart and put together.
pub mod FeasibleTests
-- The list chosen by rule 5 meets rule 4.
pub mod ChosenMeets
-- `feasible` is the existence of a list.
pub mod FeasibleIsExistence
-- The required sum is whole.
pub mod WholeSum
-- Wider limits keep every arrival.
pub mod WiderLimits
