pub mod Equations
pub mod Table
