pub mod Walks
pub mod Looks
pub mod Faults
pub mod Agree
