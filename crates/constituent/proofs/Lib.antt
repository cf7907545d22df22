pub mod Segments
pub mod Linear
pub mod Joint
pub mod Agree
