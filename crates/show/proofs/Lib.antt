pub mod Laws
pub mod OneAnswer
pub mod Refusals
pub mod Looked
pub mod House
