pub mod Lined
pub mod Agree
