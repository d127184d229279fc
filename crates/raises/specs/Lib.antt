pub mod Promise
pub mod LeastRaises
