pub mod Forms
pub mod Alternates
