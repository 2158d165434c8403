-- a history of a site: its moments, the latest turn of a task, the last state of each thing, and records of it
pub mod Moments
pub mod Latest
pub mod States
pub mod Records
-- from the loops to the zones shown: points reached and asked, their answers, and the lanes between tasks
pub mod Reached
pub mod Answers
pub mod Reports
pub mod Counts
pub mod Lanes
pub mod Zones
-- operations that are asked for, and what Keep commits of them and of entries
pub mod Operations
pub mod Batches
pub mod Storing
-- the ring, and the words that its panels tell and keep
pub mod Ring
pub mod Kept
pub mod Words
-- what follows from words: facts, markers, outputs and faults
pub mod Markers
pub mod Outputs
pub mod Faults
pub mod Run
-- what is shown: a face, and the faces and answers of a run tick by tick
pub mod Faces
pub mod Timeline
-- what a panel owes: zones and outputs that are due, and the causes of what it shows
pub mod Due
pub mod DueOutputs
pub mod Caused
pub mod CausedOutputs
-- what follows in each run: for zones held, for words on the ring, for outputs
pub mod Laws
pub mod WordLaws
pub mod OutputLaws
