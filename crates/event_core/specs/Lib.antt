pub mod Rounds
pub mod Serving
pub mod Cores
pub mod Steps
pub mod States
pub mod Counts
pub mod Told
pub mod Ticks
