pub mod Done
pub mod Order
pub mod Phases
pub mod Sound
pub mod State
