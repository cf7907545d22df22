pub mod Surveys
pub mod Agree
