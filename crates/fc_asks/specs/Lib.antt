pub mod Tables
pub mod Bodies
pub mod Plans
pub mod Requests
pub mod Codes
pub mod Holdings
pub mod Queries
