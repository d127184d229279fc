-- Rows and cells.

-- One blend and two, as one sum.
pub mod TwoBlends
-- The planned ticks of a row's blend.
pub mod BlendTicks
-- A mirrored motion has every cell negated.
pub mod Mirrored
-- Row N is on the target.
pub mod Landing
-- A row carried on misses the next by at most 3/2.
pub mod Carry
-- Sums from the landing are those from the start.
pub mod FromLanding
-- Where a cell stands in the table.
pub mod CellPlaces
-- Backward rows are the forward rows in reverse order.
pub mod Reversed
-- No cell exceeds its limit.
pub mod CellLimits
-- Row 0 is on the start.
pub mod ExactStart
-- The sway before rounding.
pub mod SwayExact
-- The sway as rounded is at most N × G more.
pub mod SwayRounded
-- The sway left of an axis, of swing lists that fit and of those that fit only nearly.
pub mod SwayCancelled
-- The misfit of a pole that was measured with an error.
pub mod MeasuredMisfit
-- Demand 3, limits, start and sway, of every accepted call.
pub mod Demand
