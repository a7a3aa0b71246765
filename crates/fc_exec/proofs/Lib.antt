pub mod Places
pub mod Applying
pub mod Marking
pub mod Named
pub mod Framed
pub mod Walked
