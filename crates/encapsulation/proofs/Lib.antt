pub mod Stores
pub mod Laid
pub mod Answers
pub mod Plain
pub mod Agree
