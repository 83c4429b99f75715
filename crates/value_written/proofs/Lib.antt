pub mod Texts
pub mod Undone
