pub mod Looking
pub mod Steps
