pub mod Channels
pub mod Dark
pub mod Loops
