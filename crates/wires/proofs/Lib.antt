pub mod Laws
pub mod LevelLaws
