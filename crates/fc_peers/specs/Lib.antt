pub mod Acting
pub mod Nexts
pub mod OpenPeers
pub mod Streams
