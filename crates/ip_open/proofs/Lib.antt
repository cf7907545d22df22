pub mod Means
pub mod Drops
pub mod Agree
