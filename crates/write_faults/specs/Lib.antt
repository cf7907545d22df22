pub mod Faults
pub mod Inside
