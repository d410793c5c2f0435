pub mod Bits
pub mod Levels
pub mod Examples
