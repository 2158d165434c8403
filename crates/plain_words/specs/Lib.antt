pub mod Askings
pub mod Enterings
pub mod Judging
pub mod MissingPoints
pub mod ZoneStates
