pub mod Asked
pub mod Noticed
pub mod Responded
pub mod Shown
pub mod Waiting
