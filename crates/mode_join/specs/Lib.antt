pub mod Joining
pub mod Modes
