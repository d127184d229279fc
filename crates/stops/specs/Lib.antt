pub mod Rows
pub mod Parts
pub mod Promise
pub mod Cases
