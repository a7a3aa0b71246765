pub mod Decimals
pub mod Hexadecimals
pub mod Meanings
pub mod Straight
