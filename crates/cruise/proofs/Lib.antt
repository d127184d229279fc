pub mod ClimbSteps
pub mod Engines
pub mod Variation
pub mod ChosenVariation
