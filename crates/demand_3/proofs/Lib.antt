pub mod BurstLaws
pub mod Calls
pub mod Demand3
pub mod Examples
pub mod Programs
pub mod Steady
pub mod Bytes
