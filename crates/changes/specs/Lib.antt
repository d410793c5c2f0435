pub mod Latches
pub mod Changes
pub mod Laws
