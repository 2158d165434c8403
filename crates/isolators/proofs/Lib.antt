-- the numbers and sections of a loop
pub mod Ranges
pub mod Sections
-- what is reached
pub mod Reached
