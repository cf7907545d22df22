pub mod Packed
pub mod Lanes
pub mod Made
pub mod Agree
