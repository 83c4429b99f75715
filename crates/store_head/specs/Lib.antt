pub mod Pack
pub mod Layout
pub mod Fits
pub mod Words
