pub mod Jobs
pub mod Raises
pub mod Parts
pub mod Searches
pub mod Tours
