pub mod Tail
pub mod Inside
