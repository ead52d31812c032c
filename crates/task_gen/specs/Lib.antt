pub mod Words
pub mod Drill
