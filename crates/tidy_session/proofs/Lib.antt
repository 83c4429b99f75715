pub mod Shown
pub mod Told
pub mod OneAnswer
pub mod Again
