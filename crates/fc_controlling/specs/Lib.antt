pub mod ControlRun
pub mod Meanings
pub mod Outcomes
pub mod Runs
pub mod RunsAlike
