-- the record that a seed draws
pub mod Records
-- what a drawer stands for
pub mod Stands
