pub mod Bounding
pub mod Operations
pub mod Running
pub mod Steps
