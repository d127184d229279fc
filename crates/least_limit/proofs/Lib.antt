mod Cases
pub mod FallsShort
pub mod Decisions
