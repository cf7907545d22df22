pub mod Dispersing
pub mod Reading
pub mod Agree
