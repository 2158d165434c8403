pub mod Statuses
pub mod Sayings
