pub mod Kept
pub mod Entries
pub mod Lying
pub mod Whole
pub mod Phases
pub mod Going
pub mod Lives
