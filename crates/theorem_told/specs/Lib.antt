pub mod Edges
pub mod Classes
pub mod Answer
pub mod Cut
pub mod Reports
pub mod Columns
