pub mod Layout
pub mod Image
pub mod Stretches
pub mod Laws
pub mod Back
pub mod Examples
pub mod Unique
