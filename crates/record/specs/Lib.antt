pub mod Answers
pub mod Devices
pub mod Fields
pub mod Fresh
pub mod Resets
pub mod Shows
pub mod Laws
