pub mod Constituent
pub mod Symbols
pub mod Six
pub mod Segment
