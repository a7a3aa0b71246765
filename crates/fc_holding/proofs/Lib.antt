pub mod Keeping
pub mod Participants
pub mod Recorded
