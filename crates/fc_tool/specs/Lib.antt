pub mod Make
pub mod Run
pub mod Runs
pub mod Show
pub mod Text
