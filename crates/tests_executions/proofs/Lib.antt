pub mod RunLemmas
pub mod WorkedJobs
