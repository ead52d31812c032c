pub mod Parts
pub mod Partitions
