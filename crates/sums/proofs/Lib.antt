pub mod Codewords
pub mod Sums
pub mod Calls
pub mod Headers
pub mod Promised
