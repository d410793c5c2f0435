pub mod Laws
pub mod Verdict
pub mod Unique
