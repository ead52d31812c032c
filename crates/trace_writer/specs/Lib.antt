pub mod Parts
pub mod Finishes
pub mod Digits
