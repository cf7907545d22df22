pub mod Closes
pub mod Agree
