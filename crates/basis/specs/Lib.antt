pub mod Truth
pub mod Unique
pub mod Rows
pub mod Decisions
pub mod Counting
pub mod Tables
pub mod Examples
