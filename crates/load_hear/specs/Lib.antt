pub mod Marks
pub mod Naming
pub mod Given
pub mod Book
pub mod Kept
