pub mod Lines
pub mod Windows
