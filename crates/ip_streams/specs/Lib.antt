pub mod Calls
pub mod Streams
