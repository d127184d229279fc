pub mod Reports
pub mod Ways
