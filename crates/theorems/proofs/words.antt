-- Words.

-- Refusal 14 names the first wrong word of kind 14.
pub mod LongWrong
-- Readers one after the other.
pub mod Readers
-- A position has one spelling.
pub mod PositionSpelling
-- Words that are read as a job spell it.
pub mod Spelling
-- The words of a job are read as it.
pub mod SpelledJob
-- Walks that find the first wrong word.
pub mod Walks
-- Refusal 2 names the first wrong word.
pub mod FirstWrongWord
-- Words are one of four things, and the decoder gives which.
pub mod WordsAre
-- A job without words of kinds 13 and 14 is read as if there were none.
pub mod OldJobs
