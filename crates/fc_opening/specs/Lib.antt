pub mod TellsWords
