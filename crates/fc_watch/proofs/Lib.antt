pub mod Again
pub mod Along
