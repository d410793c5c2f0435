pub mod Sizes
pub mod Laws
