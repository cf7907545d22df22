pub mod Kept
pub mod Inverse
pub mod Once
pub mod Rows
