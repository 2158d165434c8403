pub mod Results
pub mod Matrices
