-- the ticks of a record, and what had befallen up to one
pub mod TickTimes
-- the laws
pub mod WholeTexts
pub mod PromisesHold
pub mod FailuresCounted
