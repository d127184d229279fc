pub mod Listed
pub mod Ticks
