pub mod Sums
pub mod Clipping
pub mod Cases
pub mod Agree
