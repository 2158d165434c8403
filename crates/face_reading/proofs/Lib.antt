-- the page, its slots and how they are named
pub mod PageOrder
pub mod NamedThings
pub mod KnownNames
pub mod SameSlots
-- the line of an entry: its fields, its end, the entry that it spells
pub mod EntryFields
pub mod LineEnds
pub mod Parting
pub mod SpelledLines
pub mod SpelledEntries
pub mod EntryLaws
pub mod EntryRead
-- what lines before told, and what one line more tells
pub mod ChangedSlots
pub mod ReadInForm
pub mod TickBlocks
pub mod ChangedFaces
pub mod AnswerLines
pub mod ReadSoFar
pub mod ReadSteps
pub mod OneMoreLine
pub mod NextLine
pub mod Accepted
pub mod FirstBad
pub mod CountedLines
-- faces in form, and the changes that lead from one to another
pub mod KeptMasks
pub mod KeptPoints
pub mod FaceForm
pub mod FaceTelling
pub mod AllLines
-- whole texts, each of one timeline
pub mod RunChanges
pub mod RunAnswers
pub mod Runs
pub mod SameTexts
