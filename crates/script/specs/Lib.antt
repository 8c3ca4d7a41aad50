pub mod Words
pub mod Reading
pub mod Answers
pub mod Printed
pub mod Transcript
pub mod Testing
pub mod Session
