pub mod Outcome
pub mod Choice
pub mod Table
pub mod Moves
pub mod Refusals
