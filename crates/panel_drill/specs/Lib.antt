-- the site at work
pub mod Running
-- what stands after the last tick
pub mod Counting
-- the whole drill
pub mod Drills
