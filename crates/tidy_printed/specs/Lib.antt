pub mod Text
pub mod Part
