pub mod Changing
pub mod Elsewhere
pub mod Fitting
pub mod Here
pub mod Keyed
pub mod Mapped
pub mod Places
pub mod Settling
