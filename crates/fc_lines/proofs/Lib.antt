pub mod Cutting
pub mod DigitValues
pub mod LineSteps
pub mod OpenLines
pub mod HexWords
pub mod IdWords
pub mod LabelWords
pub mod FrontDigits
