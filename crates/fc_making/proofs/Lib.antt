pub mod MadeBytes
pub mod MadeTexts
pub mod WrittenParts
pub mod WrittenMessages
