pub mod AllFacts
pub mod Marking
pub mod Solving
