pub mod Places
pub mod Agree
