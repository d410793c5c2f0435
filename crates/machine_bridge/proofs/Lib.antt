pub mod Phases
pub mod Bridge
