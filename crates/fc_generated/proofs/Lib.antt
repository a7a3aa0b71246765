pub mod Alone
pub mod Appending
pub mod Fitting
pub mod Keeping
pub mod Names
pub mod Ranges
pub mod Stepping
