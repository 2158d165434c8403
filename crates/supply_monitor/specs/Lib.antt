pub mod Stands
pub mod Supply
pub mod Watches
