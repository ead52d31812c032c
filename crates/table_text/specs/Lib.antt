pub mod Lines
pub mod Steps
pub mod Given
pub mod Table
