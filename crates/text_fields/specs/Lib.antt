pub mod Words
pub mod Places
pub mod Keywords
pub mod Tables
