-- What is claimed of the definitions, beyond demand 3, which stands with the planning calls
-- (crates/model/specs/planning/Demand.antt).

-- Which arrivals fit windows, and refusal 13, in the words of the method.
pub mod Windows
-- What each number of a call says: its named case, the first in checking order.
pub mod Verdict
-- Which words may follow one another, said without a reader; refusal 2 by it.
pub mod Grammar
-- The words of a job, and that a job has one spelling.
pub mod Spelling
-- Rows in either order, and position sums taken from the landing end.
pub mod Rows
-- Damping as measured gives what the same job with its weights given does.
pub mod GivenWeights
-- A motion mirrored has every cell negated.
pub mod Mirror
-- Finer motors gain no time.
pub mod Finer
-- Reach goes on: the arrivals that all axes reach are one run of ticks.
pub mod Threshold
-- What is left of a sway that fits the pole's numbers only nearly.
pub mod Misfit
-- Parts of a table are its rows, and put together they are the table.
pub mod Parts
-- What the raises of an answer say.
pub mod Raises
-- What converted words are.
pub mod Converter
-- What a report of a search says, and calls that go on from spent.
pub mod Search
