pub mod Blend
pub mod BlendedSteps
pub mod BlendedRanges
pub mod BlendedSums
pub mod BlendedTicks
