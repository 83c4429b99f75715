pub mod Primaries
pub mod Secondaries
pub mod Basics
pub mod Booked
pub mod Laws
