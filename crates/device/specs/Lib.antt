pub mod Worlds
pub mod Laws
