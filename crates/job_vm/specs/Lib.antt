pub mod VmJobs
pub mod Instructions
pub mod Programs
pub mod Faults
pub mod Seen
pub mod Strays
pub mod Loading
pub mod Results
