pub mod Parts
pub mod Lengths
pub mod Loops
