pub mod Lengths
pub mod Sections
pub mod Inside
