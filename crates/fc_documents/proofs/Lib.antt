pub mod Chains
pub mod Grouping
pub mod Entering
pub mod Keeping
pub mod Judging
pub mod Ordering
pub mod Sizing
