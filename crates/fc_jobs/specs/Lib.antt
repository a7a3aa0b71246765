pub mod Scopes
pub mod Plans
pub mod Seats
pub mod JobViews
pub mod Sending
pub mod Effects
pub mod Answers
