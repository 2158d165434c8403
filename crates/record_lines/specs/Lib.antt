-- a record's bytes cut into lines, and a reader that gets them in pieces
pub mod Lines
pub mod Stands
-- what a line says: its form, words, names and seats, or the refusal that applies; and that it is of the site
pub mod Forms
pub mod Words
pub mod Events
pub mod Seats
pub mod Judged
pub mod Belongs
-- lines printed, and read back
pub mod Printed
pub mod ReadBack
