pub mod Masks
pub mod ChangedFacts
pub mod Stands
pub mod Changes
pub mod Heard
