pub mod Mapped
pub mod Named
