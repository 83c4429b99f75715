pub mod Fits
pub mod Answer
