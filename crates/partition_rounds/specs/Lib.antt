pub mod OwnRounds
pub mod PartitionSteps
pub mod Merging
