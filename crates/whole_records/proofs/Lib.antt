pub mod SoFar
