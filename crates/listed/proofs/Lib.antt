pub mod Singly
pub mod Packing
pub mod Agree
