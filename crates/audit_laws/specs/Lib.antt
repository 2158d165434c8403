-- the faces that a text shows
pub mod ToldFaces
-- what befell, as a record tells it
pub mod RecordedMoments
-- what was kept and done, as a text tells it, and the rules on zones
pub mod AlikeZones
pub mod AlikeOutputs
pub mod ZonesJudged
-- that its answers tell what was done
pub mod DoneTold
-- and that none of them is unfounded
pub mod AnswersJudged
-- what a text tells of all that was kept and done, and the rules on outputs
pub mod AccountsTold
pub mod ToldSilences
pub mod CausesJudged
-- the verdict
pub mod RunsPass
