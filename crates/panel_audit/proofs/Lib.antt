-- lists, marks and masks that are written or numbered one after another, and the first of some things
mod NumbersTaken
mod WrittenMarks
mod EightFlags
mod RowsBelow
mod FirstThings
-- a record and a text up to a tick: its orders, what was done, which faces are shown
pub mod DoneOrder
mod Orders
mod ReadSteps
mod TicksUntil
-- what breaks a rule after a tick: zones that are hidden or without a cause, outputs that aren't on or without a cause
mod HiddenZones
mod ZoneCauses
mod OutputsNotOn
mod OutputCauses
-- the first breach: of one rule, of a tick by all its rules, and of all ticks
mod ZoneRules
mod OutputRules
mod RuleBreaches
mod RulesMet
mod TickBreaches
mod FirstBreaches
-- a scan of a record, tick by tick, and the verdict
mod TicksJudged
mod Scanned
mod FirstOfScan
mod TickByTick
mod Verdicts
