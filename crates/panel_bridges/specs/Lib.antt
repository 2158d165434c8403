pub mod ClosedSteps
pub mod FactMasks
