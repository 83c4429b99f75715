pub mod Size
pub mod Refusal
pub mod Name
