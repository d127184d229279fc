pub mod Pieces
pub mod Promise
