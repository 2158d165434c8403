-- lists gone over item by item: changed, or judged
pub mod EachAfter
pub mod JudgedBelow
-- which answers count: those of points that are asked while they signal
pub mod Askings
pub mod SignalRuns
pub mod Answered
-- which operations are taken before a tick, and whether they undo what a zone's answers gave
pub mod Taken
pub mod Undone
pub mod ByZone
-- marks of points, kept of answers that counted: how they change, and whether some counted long or lately enough
pub mod MarkSteps
pub mod MarkUndone
pub mod VerifiedMarks
pub mod NearAnswers
-- since when a zone is caused: an answer that confirms it, and ticks and operations after that
pub mod Confirming
pub mod CauseSteps
pub mod Earlier
pub mod PartSteps
