pub mod Sounders
pub mod Stands
pub mod Changes
pub mod Told
