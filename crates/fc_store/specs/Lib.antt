pub mod Scopes
pub mod Spots
pub mod Stores
pub mod Trees
