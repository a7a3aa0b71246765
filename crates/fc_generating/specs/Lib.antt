pub mod Trying
pub mod Summaries
pub mod Runs
