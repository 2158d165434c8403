pub mod Growths
pub mod LineEnds
