pub mod Spans
pub mod Wrapped
pub mod Steps
pub mod Slices
pub mod Faults
pub mod Merged
pub mod Offsets
