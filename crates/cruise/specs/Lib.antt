pub mod Cruise
pub mod Engines
pub mod Variation
