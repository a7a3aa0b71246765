pub mod Tables
pub mod Steps
pub mod Rules
pub mod Scripts
pub mod Changes
pub mod Kept
pub mod Causes
