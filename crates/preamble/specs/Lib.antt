pub mod Preamble
pub mod Alternates
