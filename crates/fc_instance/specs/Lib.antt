pub mod Cells
pub mod Components
pub mod Copying
pub mod Histories
pub mod Keeping
pub mod Leading
pub mod Lent
