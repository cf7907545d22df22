pub mod OneRead
pub mod OneWrite
pub mod Delivery
pub mod Returns
pub mod Words
pub mod Kept
pub mod Promised
