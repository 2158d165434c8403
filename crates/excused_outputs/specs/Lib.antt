pub mod Behind
pub mod Excused
