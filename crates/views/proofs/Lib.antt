pub mod Rows
pub mod Views
pub mod Lists
pub mod Agree
