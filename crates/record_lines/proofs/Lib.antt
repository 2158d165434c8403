-- bytes, pieces and lines
pub mod Cuts
pub mod Fronts
pub mod Pieces
pub mod Refusals
-- what a text says
pub mod Rows
pub mod Verdicts
pub mod Judging
pub mod FirstSeats
pub mod SeatFields
-- what is printed of a line
pub mod Printing
pub mod Joins
pub mod PrintedNames
pub mod PrintedWords
-- each kind of line, printed and read back
pub mod TickLines
pub mod OrderLines
pub mod PointLines
pub mod CableLines
pub mod SupplyLines
pub mod OpLines
pub mod PrintedLines
pub mod Openings
pub mod ReadBack
-- lines in front of a piece
pub mod UsualLines
