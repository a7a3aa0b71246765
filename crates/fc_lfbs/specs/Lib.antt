pub mod BuiltIns
pub mod Kinds
pub mod LiveValues
