pub mod Resting
pub mod Masters
pub mod Refusals
pub mod Reports
pub mod Steps
