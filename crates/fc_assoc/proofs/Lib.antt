pub mod Effects
pub mod Maps
pub mod Moments
pub mod Scans
