pub mod Kept
pub mod Latched
