pub mod Held
pub mod LegLists
pub mod Outcomes
pub mod Promise
pub mod Planned
pub mod Cases
