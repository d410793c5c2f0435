pub mod Calls
pub mod Fresh
pub mod Laws
pub mod Same
pub mod Refused
pub mod Unique
