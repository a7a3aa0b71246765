pub mod Asking
pub mod Changing
pub mod Shaped
pub mod Spelled
