pub mod ToldEvents
