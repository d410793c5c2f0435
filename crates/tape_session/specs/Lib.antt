pub mod Session
pub mod Unique
