pub mod Applied
pub mod Entries
pub mod Stands
pub mod Changes
