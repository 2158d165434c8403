-- parts of histories, and the words that were kept then
pub mod PartsOf
pub mod WordsThen
-- outputs by any facts
pub mod AnyFacts
-- zones
pub mod OwnZones
-- outputs: what the own word tells, what is due for the own zones
pub mod OwnFacts
pub mod QuietOthers
pub mod NodeDue
-- outputs: what the words that are kept ask for, and by what an output is on
pub mod NodeAsked
pub mod NodeCaused
