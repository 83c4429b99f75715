pub mod Bits
pub mod Noting
pub mod Booking
