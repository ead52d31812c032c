pub mod Multiples
pub mod Loads
