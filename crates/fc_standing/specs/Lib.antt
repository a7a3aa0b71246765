pub mod Basis
pub mod Holding
