-- the two tables: the texts that make and use them, their rows, and the values in these
pub mod Schema
pub mod Texts
pub mod Stored
pub mod Values
-- a keeper's calls: what they ask and are answered, what is kept, and what makes one fail
pub mod Opened
pub mod Kept
pub mod Asked
pub mod Days
pub mod Faults
