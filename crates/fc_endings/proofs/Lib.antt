pub mod Endings
pub mod Looking
