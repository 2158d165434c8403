pub mod Arrivals
pub mod Newest
pub mod Stands
pub mod Kept
