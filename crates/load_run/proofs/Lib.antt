pub mod Taking
pub mod Kept
pub mod Turn
pub mod Closing
