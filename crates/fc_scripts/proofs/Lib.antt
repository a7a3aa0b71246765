pub mod Counting
pub mod Stopping
pub mod Stepping
pub mod Judging
pub mod Changing
pub mod Keeping
