pub mod Life
pub mod Registered
pub mod Told
