pub mod Answered
pub mod Called
pub mod Edges
pub mod Walked
