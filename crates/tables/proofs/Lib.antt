pub mod Weighing
pub mod Looking
pub mod Agree
