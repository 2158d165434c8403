-- a fault of the shelf that came earlier
pub mod Sinces
