pub mod Lines
pub mod Row
pub mod Part
pub mod Listed
