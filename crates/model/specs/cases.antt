-- Cases that the proofs compute.

-- What a case is, and what cases share.
pub mod Case
-- Damping as measured.
pub mod DampingCases
-- Single definitions, and rows.
pub mod RowCases
-- The starred field cases.
pub mod FieldCases
-- Windows, and arrivals that end.
pub mod WindowCases
-- A second sway.
pub mod SwayCases
-- Raises.
pub mod RaisesCases
-- The converter.
pub mod ConverterCases
-- Positions past 28 bits.
pub mod LongCases
-- Searches with a budget.
pub mod SearchCases
