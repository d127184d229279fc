pub mod AllAxes
pub mod LeastRaises
pub mod Calls
