pub mod Sinks
pub mod Parts
pub mod Written
pub mod Agree
pub mod DemandWrite
