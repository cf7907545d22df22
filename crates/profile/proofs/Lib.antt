pub mod Delays
pub mod Making
pub mod Giving
pub mod Samples
pub mod Promised
pub mod Agree
