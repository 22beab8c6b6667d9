pub mod Words
pub mod Answers
mod Examples
