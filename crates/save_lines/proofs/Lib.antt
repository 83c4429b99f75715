pub mod Parts
pub mod Lengths
pub mod Rules
pub mod Bounds
