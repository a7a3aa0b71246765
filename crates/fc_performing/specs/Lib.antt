pub mod Beside
pub mod Notices
pub mod Performing
pub mod Sending
