-- The other calls, and the verdict of every call.

-- Every planning call ends in a verdict.
pub mod CallVerdict
-- Parts are the table's rows; parts one after the other are the table.
pub mod Parts
-- The least raise of one limit.
pub mod LeastRaise
-- What an answer with raises says.
pub mod RaisesHold
-- The converted words are those of the converted job.
pub mod ConvertedWords
-- A converted job has the outcome of the old one.
pub mod ConvertedJob
-- A conversion keeps the outcome, under the old rules and in planning.
pub mod Conversion
-- How an undivided search falls into two.
pub mod Budgets
-- What the report of a search says.
pub mod SearchSays
-- What each number of a search says, and searches that go on from spent.
pub mod SearchCalls
-- Every call with damping as measured gives what it gives with weights given.
pub mod MeasuredCalls
