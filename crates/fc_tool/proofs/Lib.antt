pub mod Commands
pub mod Judged
pub mod Making
pub mod Reaching
pub mod Shows
pub mod Texts
pub mod Verdicts
