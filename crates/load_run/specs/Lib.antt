pub mod Take
pub mod Loaded
