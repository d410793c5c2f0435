pub mod Addresses
pub mod Places
pub mod Protection
pub mod Examples
pub mod Laws
