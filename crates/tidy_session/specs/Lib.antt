pub mod Session
pub mod Again
