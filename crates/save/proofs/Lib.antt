pub mod Sorting
pub mod Walk
pub mod Rows
pub mod Memories
pub mod Whole
pub mod Rules
pub mod House
