-- The laws of the words of bytes.
pub mod Laws
