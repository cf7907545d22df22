pub mod Frame
pub mod Piping
pub mod Calls
pub mod Inside
