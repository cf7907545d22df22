pub mod Owning
pub mod Told
pub mod Found
pub mod Bytes
pub mod Agree
