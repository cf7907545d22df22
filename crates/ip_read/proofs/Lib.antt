pub mod Copies
pub mod Opens
pub mod Hands
pub mod Takes
pub mod Agree
pub mod Outcomes
