pub mod FaultSteps
pub mod HeardCauses
pub mod HeardMasks
pub mod OnOutputs
