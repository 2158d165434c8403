pub mod Confirmations
pub mod WatchedOutputs
pub mod Stands
