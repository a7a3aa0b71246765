pub mod Merges
pub mod Parts
pub mod Places
pub mod Positions
pub mod Rooms
