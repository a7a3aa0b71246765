pub mod Lives
pub mod SettledEvents
pub mod Registered
pub mod Rests
pub mod Told
