pub mod LineReading
pub mod LineWords
pub mod TextPlaces
pub mod WordValues
