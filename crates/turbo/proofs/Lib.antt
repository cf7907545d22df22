pub mod Accepting
pub mod Groups
pub mod CodeBits
pub mod Reading
pub mod Streaming
pub mod Ending
pub mod Agree
