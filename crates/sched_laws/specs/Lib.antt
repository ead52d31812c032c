pub mod Servers
pub mod Rates
pub mod LevelCounts
pub mod Migration
