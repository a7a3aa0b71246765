pub mod Tables
pub mod Rules
pub mod Parts
pub mod Plans
pub mod Kept
pub mod Causes
