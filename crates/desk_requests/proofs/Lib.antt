-- the head of a request: how its bytes begin, what its fields say, and how long a body it may announce
pub mod HeadLaws
pub mod FieldValues
pub mod AskedLaws
-- a connection read piece by piece, up to where reading stops
pub mod ReadPieces
pub mod TakenLaws
