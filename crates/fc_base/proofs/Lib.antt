pub mod Hexes
pub mod HexTexts
pub mod Pairs
