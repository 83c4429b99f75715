pub mod Split
pub mod Arith
pub mod Scan
pub mod Table
pub mod Pad
pub mod Put
pub mod Search
pub mod Noted
