pub mod Rehearse
pub mod Frame
pub mod Needs
