-- what a row spells
pub mod Spelled
-- a file judged row by row
pub mod RowByRow
-- rows that are put one behind the other
pub mod PutInTurn
-- what is found after visits and tests are put
pub mod Found
-- a file that is imported again
pub mod Again
-- a file of which some first rows were put
pub mod Completed
