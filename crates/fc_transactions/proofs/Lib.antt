pub mod Done
pub mod Rests
pub mod Openings
pub mod Turns
pub mod Floors
pub mod Endings
pub mod Unclaimed
