pub mod FaceObjects
pub mod Outlets
