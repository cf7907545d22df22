pub mod Laying
pub mod Begins
pub mod Closes
pub mod Refusals
pub mod Agree
