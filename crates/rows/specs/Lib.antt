pub mod Spelt
pub mod Inside
