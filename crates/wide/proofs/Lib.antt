pub mod Widens
pub mod Stores
pub mod Agree
