-- what a text and a record tell of a run: the faces after each tick, what befell, and what was kept at opening
pub mod FacesTold
pub mod MomentsTold
pub mod SettingsTold
-- which operations were done, read off the answers in the text
pub mod DoneAnswers
pub mod SameDone
pub mod StepsTold
pub mod DoneTold
-- alike accounts of what was kept and done: zones, outputs and faults come out the same by each
pub mod AlikeZones
pub mod AlikeOutputs
pub mod AlikeFaults
pub mod ZonesTold
pub mod AccountsTold
-- the last silence or resound of each panel, in a run and by its answers
pub mod Silences
pub mod RankedAnswers
pub mod SilencesTold
-- no rule is broken: on zones, on answers and their levels, on causes; so the whole text passes
pub mod ZonesJudged
pub mod Levels
pub mod AnswersJudged
pub mod Released
pub mod CausesJudged
pub mod RunsPass
