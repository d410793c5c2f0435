pub mod Tape
pub mod Play
pub mod Laws
pub mod Unique
