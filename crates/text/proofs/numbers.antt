-- The laws of the printed numbers.
pub mod Laws
