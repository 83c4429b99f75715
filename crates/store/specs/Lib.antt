pub mod Slots
pub mod View
pub mod Change
pub mod Form
pub mod Order
pub mod Memories
pub mod Fits
pub mod Good
