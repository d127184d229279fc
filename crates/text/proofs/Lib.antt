pub mod Enough
pub mod FieldCases
