pub mod Levels
pub mod Spans
