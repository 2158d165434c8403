pub mod Told
pub mod Seats
pub mod Stands
pub mod Changes
pub mod Keeping
pub mod Shown
