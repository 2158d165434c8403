pub mod EachPanel
pub mod Reached
pub mod ZonesDue
