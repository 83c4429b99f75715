pub mod Condition
pub mod Item
pub mod Ask
pub mod Anew
pub mod Step
pub mod Run
pub mod Translated
pub mod Fits
