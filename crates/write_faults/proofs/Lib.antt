pub mod Faults
pub mod Agree
