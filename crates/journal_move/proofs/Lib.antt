pub mod CarriedStates
pub mod Sparing
pub mod Targets
pub mod Answering
