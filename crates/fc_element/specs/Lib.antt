pub mod Configuration
pub mod ElementMachine
pub mod ElementState
pub mod Notices
pub mod Places
pub mod Reports
pub mod Runs
