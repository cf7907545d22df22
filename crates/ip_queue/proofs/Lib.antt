pub mod Places
pub mod Faults
pub mod First
pub mod Seen
pub mod Agree
