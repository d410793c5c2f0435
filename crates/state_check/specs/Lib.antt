pub mod Values
pub mod States
pub mod StateLaws
