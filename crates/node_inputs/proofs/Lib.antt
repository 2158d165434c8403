-- the lines behind the first, and the first
pub mod OwnLines
pub mod FirstLine
pub mod WholeInputs
