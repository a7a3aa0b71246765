pub mod Keyed
pub mod Own
pub mod Shapes
pub mod Tells
