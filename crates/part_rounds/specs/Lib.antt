pub mod PartRounds
pub mod Placed
pub mod Parted
pub mod PartedSteps
pub mod Merging
