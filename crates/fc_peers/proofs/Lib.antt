pub mod Acts
pub mod Cut
pub mod OpenPeers
pub mod Streaming
