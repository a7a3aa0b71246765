pub mod Core
pub mod CoreLaws
pub mod Agreement
pub mod Runs
pub mod CleanRound
pub mod Scopes
pub mod Restarts
