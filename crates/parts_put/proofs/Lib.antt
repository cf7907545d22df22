pub mod Puts
pub mod Agree
