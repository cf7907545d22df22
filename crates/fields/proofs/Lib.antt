pub mod Faults
pub mod Plain
pub mod Agree
