-- lanes: that they have room
pub mod Rooms
-- operations: that they are of the site, which were done before a tick, which settings they leave
pub mod OfSite
pub mod Applied
-- entries into the fire alarm condition: which are kept
pub mod EntriesKept
pub mod Counts
pub mod Settings
pub mod TickDone
-- what befalls a panel: what was told stays, turns, those of Decide, Hold and Supply, reports, an operation that comes in force
pub mod Later
pub mod Panels
pub mod Takes
pub mod Holds
pub mod Supplies
pub mod Reports
pub mod Operations
