pub mod Chain
pub mod Taking
pub mod Stepping
pub mod Run
pub mod Promised
pub mod Agree
