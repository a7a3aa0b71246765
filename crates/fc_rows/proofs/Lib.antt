pub mod ColumnLaws
pub mod Filling
pub mod IndexKeys
pub mod Leading
pub mod RowPlaces
pub mod Standing
pub mod Updating
