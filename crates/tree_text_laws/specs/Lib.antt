pub mod Renumbered
pub mod Again
