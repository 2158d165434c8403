pub mod Asking
pub mod FactsTold
pub mod Laws
pub mod Marks
pub mod Solved
