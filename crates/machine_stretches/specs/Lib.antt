pub mod Stretches
pub mod Laws
