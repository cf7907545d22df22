pub mod Types
pub mod Suffix
pub mod Word
pub mod Steps
