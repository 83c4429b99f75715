pub mod Size
pub mod Name
pub mod Reply
