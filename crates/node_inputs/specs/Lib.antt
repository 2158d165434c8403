pub mod OwnEvents
pub mod OwnBlocks
pub mod Inputs
pub mod Reading
