pub mod Calls
pub mod Fills
pub mod Laws
pub mod Refused
pub mod Unique
