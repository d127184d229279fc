pub mod ThreeRegions
pub mod ChosenRegions
