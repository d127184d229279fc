-- All axes of a job, and what each number says of it.

-- The weight of damping as measured.
pub mod MeasuredWeight
-- A measured weight and the same weight given.
pub mod GivenWeights
-- The bits of a mask.
pub mod Masks
-- The ranges of an axis that passed its refusals.
pub mod PassedAxis
-- An axis that can be planned for an arrival.
pub mod PlannableAxis
-- Two jobs that nothing tells apart.
pub mod MappedAxes
-- Windows: decisions and words agree.
pub mod WindowsInWords
-- The least candidate that passes a test.
pub mod LeastTick
-- The list of numbered tests of an axis.
pub mod CheckingOrder
-- Refusals 8 and 9 of a job with windows.
pub mod OutsideWindows
-- What admission comes to, and what a call says that goes on from it.
pub mod Admissions
-- Each refusal comes only in its named case, the first in checking order.
pub mod Verdict
-- A call with its rows in an order.
pub mod Ordered
-- The verdict with rows in either order.
pub mod VerdictIn
-- The answer before refusal 10.
pub mod BeforeTen
