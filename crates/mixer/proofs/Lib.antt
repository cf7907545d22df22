pub mod Mixer
pub mod Mixes
pub mod Round
pub mod Unmixes
pub mod Promised
pub mod Agree
