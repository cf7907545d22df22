pub mod WaysBack
pub mod Damage
pub mod Registers
pub mod IpWords
pub mod Types
pub mod IpDamage
pub mod InBytes
pub mod Promised
