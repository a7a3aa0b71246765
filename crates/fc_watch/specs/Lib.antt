pub mod Merging
pub mod Settings
pub mod Watching
