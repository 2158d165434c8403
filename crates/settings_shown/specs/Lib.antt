pub mod OnFaces
pub mod Shown
