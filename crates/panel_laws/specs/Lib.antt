-- operations: one answer each, and what Keep commits of them
pub mod OperationLaws
pub mod StoringLaws
pub mod BatchFits
pub mod BatchLaws
-- what outputs go by: words heard on the ring, and the one solution of the markers
pub mod HeardWords
pub mod MarkerLaws
-- deadlines: of outputs, of faults and after a reset, and those that the profile gives
pub mod OutputDeadlines
pub mod OtherDeadlines
pub mod ProfileLaws
-- what faces show of zones, outputs and settings
pub mod FaceLaws
pub mod ShownOutputs
pub mod ShownSettings
-- the timeline of a run: what it tells, and that it is in form
pub mod TimelineLaws
pub mod FormLaws
-- small cases: of operations, outputs, zones and the ring, and a whole run
pub mod Examples
pub mod OutputExamples
pub mod AlarmExamples
pub mod RunExamples
