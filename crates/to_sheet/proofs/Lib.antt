pub mod Copies
pub mod Fills
pub mod Readings
pub mod Agree
pub mod Demand
