pub mod Statuses
pub mod Sums
pub mod Tries
