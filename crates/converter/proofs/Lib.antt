pub mod Pieces
pub mod Stages
