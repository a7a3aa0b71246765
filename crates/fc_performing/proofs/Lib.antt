pub mod Said
pub mod Undoing
