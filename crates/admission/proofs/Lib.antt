pub mod Weights
pub mod Purposes
pub mod Admitted
