pub mod Done
pub mod Take
pub mod Each
