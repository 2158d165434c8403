pub mod Lane
pub mod LastTicks
pub mod Earliest
pub mod Orders
pub mod SeatSets
pub mod Ticks
