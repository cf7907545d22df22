pub mod Agree
pub mod Promised
