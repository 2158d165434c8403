pub mod WordsKept
pub mod OwnZones
pub mod MayBeOn
pub mod DueOutputs
pub mod AskedOutputs
pub mod CausedOutputs
