pub mod Beginning
pub mod ControlNode
pub mod Controls
pub mod Leaving
pub mod Pieces
pub mod Planning
pub mod Reports
pub mod Serving
