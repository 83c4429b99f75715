pub mod Stream
pub mod Received
pub mod Cleaning
pub mod Plain
pub mod Counts
pub mod Columns
