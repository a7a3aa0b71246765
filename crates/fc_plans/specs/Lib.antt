pub mod Components
pub mod Mastership
pub mod Changes
pub mod Plans
