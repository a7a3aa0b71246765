pub mod Cutting
pub mod Deciding
pub mod Ending
pub mod Prefixes
pub mod Statuses
