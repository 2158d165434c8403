-- an operation: what Desk makes of it, its one answer, and when what it sets is in force and kept
pub mod DeskOutcomes
pub mod AnswerLaws
pub mod AnswersStay
pub mod Accepted
pub mod SettingLaws
pub mod StoredSettings
-- the answers told in a tick: which there may be, at most how many, and in which order
pub mod AnswersFit
pub mod FewAnswers
pub mod AnswersRise
-- markers: their one solution, and that a fact more makes none false
pub mod Solutions
pub mod Monotony
-- words of the ring: the latest one that a panel made, and those heard at the turn that outputs go by
pub mod HeardWords
pub mod EffectWords
-- outputs: due by a signal alone, on where they are due, caused where they are on, off where nobody asks
pub mod DueBySignal
pub mod DriveTurns
pub mod DueOn
pub mod OutputsOn
pub mod Unasked
-- what a face shows: zones and outputs, first states, the fire alarm condition, settings
pub mod FacesShow
pub mod FirstsShow
pub mod IndicationsShow
pub mod FireTold
pub mod SettingsShow
-- faults shown in time: cables and links, missing points, bad supplies, panels cut off; and signals after a reset
pub mod OwnTick
pub mod LastAnswers
pub mod Away
pub mod Supplies
pub mod CutOff
-- turns of Keep: the disk's calls in one, how small its batch is, and that what was done was committed
pub mod KeepFaults
pub mod BatchesFit
pub mod DoneKept
-- counters of the fire alarm condition: entries, their sum, and counting from 0 once cleared
pub mod EntriesAddUp
pub mod LaterDone
pub mod CountersAddUp
pub mod ClearedCounts
-- the timeline: its steps, and that what it tells is of the site and in form
pub mod Steps
pub mod EventsOfSite
pub mod NamedMasks
pub mod NamedFaces
pub mod FacesInForm
pub mod TimelineForms
-- the numbers of ticks that the profile promises, and one run computed in two orders of turns
pub mod ProfileRows
pub mod RunRows
