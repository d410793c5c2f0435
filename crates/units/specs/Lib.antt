pub mod Units
pub mod Laws
pub mod Compared
