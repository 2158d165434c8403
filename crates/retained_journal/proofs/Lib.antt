-- the bytes of a file: what is read alike where they are the same, and what is found first
pub mod Lengths
pub mod Agreement
pub mod CellAgreement
pub mod FrontAgreement
pub mod Finding
pub mod Reading
pub mod SeenFiles
-- what is read back of what was written
pub mod Writing
pub mod WrittenSlots
pub mod WrittenCells
pub mod WrittenParts
-- changes in their form, and the states that they leave
pub mod Forms
pub mod Keeping
-- what a file opens to
pub mod Openings
pub mod Replaying
pub mod Refused
pub mod NewFiles
pub mod SameFiles
pub mod OlderFiles
-- what a crash may leave of an open journal
pub mod Images
pub mod NewJournals
pub mod ReadImages
pub mod Torn
pub mod SparedBytes
pub mod StepImages
pub mod Calls
