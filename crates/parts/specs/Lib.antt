pub mod Parts
pub mod Lengths
pub mod Laws
pub mod Examples
