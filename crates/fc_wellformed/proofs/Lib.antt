pub mod Clear
pub mod Controlled
pub mod Keeping
pub mod Said
pub mod Sizes
