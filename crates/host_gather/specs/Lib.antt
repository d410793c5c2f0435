pub mod Refusals
pub mod Laws
