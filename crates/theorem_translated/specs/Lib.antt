pub mod Numbered
pub mod Links
pub mod Columns
pub mod Alike
pub mod Edges
