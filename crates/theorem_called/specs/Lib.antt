pub mod Called
pub mod Walked
