pub mod Laws
pub mod Alternates
pub mod Promised
pub mod Agree
