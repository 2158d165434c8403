-- facts of an Effect turn, as words tell them and as masks
pub mod WordFacts
pub mod MaskEquations
-- the ring and the first faults
pub mod RingStates
pub mod NoFaultsYet
-- steps of a timeline
pub mod ClosedSteps
