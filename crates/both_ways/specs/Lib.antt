pub mod Damage
