pub mod Chain
pub mod Components
pub mod Documents
pub mod Depths
pub mod Steps
pub mod Least
pub mod KeyFaults
pub mod Judged
