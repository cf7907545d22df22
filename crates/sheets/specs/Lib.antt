pub mod Owned
pub mod Answers
