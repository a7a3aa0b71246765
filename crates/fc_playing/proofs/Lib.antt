pub mod Steps
pub mod Plays
pub mod Promising
pub mod Deciding
pub mod Ending
pub mod Statuses
