pub mod Sums
pub mod Skips
