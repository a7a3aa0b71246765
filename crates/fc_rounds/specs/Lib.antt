pub mod Networks
pub mod Following
pub mod Promise
pub mod Lines
pub mod CleanRound
