pub mod Scale
pub mod Velocities
pub mod PlannedRanges
pub mod PlannedSums
pub mod PlannedTicks
pub mod PlannableAxis
pub mod OneAnswer
