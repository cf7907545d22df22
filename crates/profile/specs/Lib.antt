pub mod Profile
pub mod Lent
pub mod Wanted
