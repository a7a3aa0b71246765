pub mod Associations
pub mod Places
