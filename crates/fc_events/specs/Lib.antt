pub mod Events
pub mod Operations
pub mod Order
pub mod Properties
pub mod Reports
pub mod Setting
pub mod Subscribing
pub mod Telling
