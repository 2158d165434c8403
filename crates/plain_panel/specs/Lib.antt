pub mod Keepings
pub mod Network
pub mod SiteStates
pub mod Timelines
