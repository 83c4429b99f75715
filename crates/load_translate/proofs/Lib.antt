pub mod Bearers
pub mod Links
pub mod Marks
pub mod Reading
pub mod Walking
pub mod Whole
