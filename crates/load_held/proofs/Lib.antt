pub mod Holding
pub mod Answers
pub mod Clearing
