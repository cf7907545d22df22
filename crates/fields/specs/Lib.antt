pub mod Report
pub mod Claims
