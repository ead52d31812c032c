pub mod Found
pub mod Promises
