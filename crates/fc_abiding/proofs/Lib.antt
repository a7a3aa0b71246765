pub mod Following
pub mod Naming
pub mod Hearing
pub mod Shown
pub mod Shaped
pub mod Reading
pub mod Counted
pub mod Responding
