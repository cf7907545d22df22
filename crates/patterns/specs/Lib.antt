pub mod Rates
pub mod Blocks
pub mod Rows
pub mod Sent
pub mod Length
