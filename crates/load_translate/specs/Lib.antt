pub mod Bearing
pub mod Links
