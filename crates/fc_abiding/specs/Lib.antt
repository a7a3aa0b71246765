pub mod Abiding
pub mod Responses
pub mod Runs
