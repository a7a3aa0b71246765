pub mod Gives
pub mod Keys
pub mod Names
pub mod Types
pub mod Declarations
pub mod Documents
pub mod Refusals
