pub mod Gathering
pub mod Sinking
pub mod Reading
pub mod Agree
