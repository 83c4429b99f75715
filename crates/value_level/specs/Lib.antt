pub mod Level
pub mod Run
