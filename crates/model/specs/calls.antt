-- What the other calls mean.

-- The words that the table program reads from bytes.
pub mod Bytes
-- Some rows of a table, from any row on.
pub mod Parts
-- A tour of stops, leg by leg.
pub mod Tour
-- The least raise of a limit that makes an asked arrival.
pub mod Raises
-- Old words with flying fixed targets, converted.
pub mod Converter
-- A search for the arrival with a budget of candidates.
pub mod Search
