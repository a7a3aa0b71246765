pub mod Answering
pub mod Mastership
pub mod Asking
