pub mod Raises
pub mod Searches
