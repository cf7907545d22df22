pub mod Place
pub mod Inside
