pub mod Again
pub mod Order
pub mod Seats
