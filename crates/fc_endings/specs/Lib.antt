pub mod Endings
pub mod Limits
pub mod Looks
pub mod Stops
