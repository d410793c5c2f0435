pub mod Registers
pub mod RegisterLaws
pub mod Plans
pub mod PlanLaws
pub mod Examples
