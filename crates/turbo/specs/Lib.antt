pub mod Lane
pub mod Encode
pub mod Stream
