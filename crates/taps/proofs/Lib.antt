pub mod Tapping
pub mod Agree
