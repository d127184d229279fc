pub mod Drift
pub mod Halving
pub mod Approaches
