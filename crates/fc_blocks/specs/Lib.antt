pub mod Opening
pub mod Queries
pub mod Settings
