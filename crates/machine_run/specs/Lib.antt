pub mod Fed
pub mod Laws
