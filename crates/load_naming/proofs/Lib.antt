pub mod Fields
pub mod Names
pub mod Times
pub mod Next
