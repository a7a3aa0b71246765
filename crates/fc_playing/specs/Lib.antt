pub mod Playing
pub mod Promised
pub mod WorldRun
pub mod Runs
pub mod Outcomes
