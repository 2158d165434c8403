pub mod Marks
pub mod Causes
pub mod Undoing
pub mod Judging
pub mod Counting
pub mod Stands
