pub mod Numbered
pub mod Nesting
