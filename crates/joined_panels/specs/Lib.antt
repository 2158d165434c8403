pub mod Latest
pub mod Links
pub mod Stands
pub mod Stretches
pub mod Windows
