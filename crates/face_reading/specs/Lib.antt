pub mod Entries
pub mod EntryLines
pub mod ReadSoFar
pub mod ReadingLaws
pub mod Reading
pub mod Spelled
pub mod Telling
