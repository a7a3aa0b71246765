pub mod Tables
pub mod Transactions
pub mod Generated
