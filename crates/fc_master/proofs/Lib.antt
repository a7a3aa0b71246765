pub mod Unknown
pub mod Rested
pub mod Changing
pub mod Refusing
pub mod Forgetful
pub mod Entering
