pub mod Appending
pub mod Decimals
pub mod Indents
pub mod Keeping
pub mod Octets
pub mod ShowingPaths
