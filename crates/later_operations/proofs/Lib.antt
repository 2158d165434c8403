-- a test of histories that the earlier parts of one pass too
pub mod Earlier
-- what goes by the facts of Effect turns, and what by which outputs went on
pub mod ByFacts
pub mod ByOutputs
-- what later operations change nothing of: outputs over given facts, what is made of answers, what words tell
pub mod GoesOn
pub mod Signs
pub mod EarlierWords
-- the laws
pub mod DoneFrom
pub mod Laws
