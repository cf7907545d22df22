pub mod Seen
pub mod Agree
