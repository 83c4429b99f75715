pub mod Stream
pub mod Received
pub mod Cleaning
pub mod Window
