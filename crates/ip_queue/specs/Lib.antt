pub mod Places
pub mod Looking
