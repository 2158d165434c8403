-- what panels show of their own and of one another
pub mod HoldsShown
pub mod Elsewhere
pub mod SiteStates
pub mod FacesMore
-- what is kept
pub mod Keepings
-- steps of the timeline
pub mod Timelines
pub mod Tellers
