pub mod Faults
pub mod Members
pub mod Packs
pub mod Reading
