pub mod BuiltIn
pub mod Classes
pub mod Components
pub mod Ids
pub mod Libraries
pub mod Sound
pub mod TypeRules
pub mod Types
