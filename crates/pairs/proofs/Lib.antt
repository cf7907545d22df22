pub mod Spreading
pub mod Coupling
pub mod Copying
pub mod Agree
