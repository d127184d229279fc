-- The cases, computed.

-- The starred field cases, windows, a second sway, raises and the converter.
pub mod Starred
-- Damping as measured.
pub mod DampingCases
-- Single definitions, and rows.
pub mod RowCases
-- Positions past 28 bits.
pub mod LongCases
-- Searches with a budget.
pub mod SearchCases
