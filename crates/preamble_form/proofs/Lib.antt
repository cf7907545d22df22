pub mod Telling
pub mod Alternates
pub mod Promised
pub mod Agree
