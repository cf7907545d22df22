pub mod Sums
pub mod Groups
pub mod Received
pub mod Accepting
pub mod Range
pub mod Codeword
pub mod Promised
pub mod Agree
