pub mod Merging
pub mod Columns
pub mod Sums
pub mod Lawful
pub mod Forms
