pub mod FirstMisfit
pub mod HeadedReading
pub mod Text
pub mod TextGrammar
pub mod TextReading
