pub mod Finding
pub mod Merging
pub mod Places
pub mod Putting
pub mod Removing
