pub mod Steady
pub mod Halves
pub mod Approaching
