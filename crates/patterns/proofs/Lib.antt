pub mod Rates
pub mod Blocks
pub mod Groups
pub mod Totals
pub mod Spread
pub mod Length
pub mod Agree
