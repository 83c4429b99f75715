pub mod Fields
pub mod Faults
pub mod Laws
pub mod Done
