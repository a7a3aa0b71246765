pub mod Folds
pub mod Outcomes
pub mod Positions
