-- all panels of a site: the history that they stand for, what moments make of it, and words heard of one another
pub mod Stands
pub mod Heard
pub mod Changes
pub mod OrderForms
pub mod StepCounts
-- the journal: what a turn of Keep commits, and what a power cut leaves
pub mod Keeping
pub mod PowerCuts
-- what a panel shows, what the rules promise of it, and which panels may show something new
pub mod ShownZones
pub mod PartsShown
pub mod ShownFaces
pub mod PromisedFaces
pub mod Marks
