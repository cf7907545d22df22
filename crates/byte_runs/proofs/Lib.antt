pub mod Runs
pub mod Agree
