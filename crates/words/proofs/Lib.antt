pub mod Puts
pub mod Decimal
pub mod Filled
pub mod Room
pub mod Agree
