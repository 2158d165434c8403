pub mod Installations
