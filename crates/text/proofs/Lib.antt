pub mod Short
pub mod Listed
pub mod Told
pub mod Agree
pub mod Ok
pub mod Demand
