pub mod Frames
pub mod Kept
pub mod Told
pub mod Stands
pub mod Words
pub mod Changes
