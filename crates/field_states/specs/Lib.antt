pub mod Sounding
pub mod Lines
pub mod Field
