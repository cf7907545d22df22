pub mod Laws
pub mod Changes
pub mod Linear
pub mod Agree
