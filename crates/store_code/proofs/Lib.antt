pub mod Laws
pub mod Word
pub mod Found
pub mod Ranged
