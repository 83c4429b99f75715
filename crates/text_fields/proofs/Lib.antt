pub mod Classes
pub mod Words
pub mod Keys
pub mod Runs
pub mod Counts
pub mod Placed
