pub mod Fields49
pub mod Closing
pub mod Ending
pub mod Sealing
pub mod Written
pub mod Again
pub mod Agree
pub mod Types
