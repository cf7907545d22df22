pub mod Sections
pub mod Walking
pub mod Totals
pub mod Growing
pub mod Agree
