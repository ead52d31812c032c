pub mod Causes
pub mod Streams
pub mod Memory
pub mod StdStreams
pub mod Lines
pub mod Gates
pub mod JobMachine
pub mod Jobs
