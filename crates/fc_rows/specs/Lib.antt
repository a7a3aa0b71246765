pub mod Columns
pub mod Indexing
pub mod Rowed
