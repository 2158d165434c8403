pub mod Bits
pub mod Confirming
pub mod Runs
pub mod NoneWatched
