pub mod Writes
pub mod Chain
