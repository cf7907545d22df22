pub mod Mixer
pub mod Unmixer
pub mod Mixing
pub mod Wanted
pub mod Inside
