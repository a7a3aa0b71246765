pub mod Saying
pub mod WellFormed
