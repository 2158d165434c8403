-- what a row behind the others makes of a table, and the days of a point
pub mod TableLaws
-- a test that is put
pub mod TestsKept
