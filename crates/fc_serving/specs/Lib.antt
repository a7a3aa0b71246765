pub mod ElementNode
pub mod ElementRun
pub mod Pieces
pub mod Runs
pub mod RunsAlike
pub mod Serving
