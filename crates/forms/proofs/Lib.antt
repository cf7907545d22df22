pub mod Counts
pub mod Checked
pub mod Agree
pub mod Demand
