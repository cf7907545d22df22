pub mod Writing
pub mod Claims
pub mod Steps
