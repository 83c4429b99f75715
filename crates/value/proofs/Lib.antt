pub mod Digits
pub mod Runs
pub mod Cuts
pub mod Numbers
pub mod Wholes
pub mod Times
pub mod Splits
