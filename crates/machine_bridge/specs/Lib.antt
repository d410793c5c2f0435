pub mod Stage
pub mod Gathering
pub mod Taking
pub mod Phases
pub mod Silence
pub mod Bridge
