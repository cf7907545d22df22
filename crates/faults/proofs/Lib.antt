pub mod Searches
pub mod Agree
