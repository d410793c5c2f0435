pub mod Page
pub mod Laws
pub mod Shown
