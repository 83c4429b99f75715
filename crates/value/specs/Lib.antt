pub mod Integer
pub mod Digits
pub mod Parts
pub mod Number
pub mod Time
pub mod Field
