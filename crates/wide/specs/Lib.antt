pub mod Wide
pub mod Held
