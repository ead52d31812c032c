pub mod Written
pub mod Faults
pub mod TextTree
pub mod FirstSteps
pub mod Scans
pub mod Refusals
