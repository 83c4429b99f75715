pub mod Text
pub mod Scan
pub mod Table
pub mod Pad
pub mod Put
pub mod Search
pub mod Note
