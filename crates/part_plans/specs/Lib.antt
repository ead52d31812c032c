pub mod Covers
pub mod Likeness
pub mod PartPlans
