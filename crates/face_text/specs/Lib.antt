-- a face and its page: slots with a value each, the lines or JSON that tell them, things named in order
pub mod Faces
pub mod Slots
pub mod Lists
pub mod NextNames
pub mod Starts
-- the text of a run: lines on changes and answers, the whole timeline, and what is held back
pub mod Changes
pub mod Answers
pub mod Timelines
pub mod Holding
