pub mod Disperser
pub mod Slots
pub mod Collector
pub mod Receiver
pub mod Ring
pub mod Wanted
