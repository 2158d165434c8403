pub mod Lanes
pub mod Told
pub mod Turns
pub mod Shown
pub mod ToldLaws
pub mod HoldLaws
