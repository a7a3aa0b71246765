pub mod Answering
pub mod Asked
pub mod Owning
pub mod Rising
