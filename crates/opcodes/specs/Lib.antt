pub mod Opcodes
pub mod OpcodeLaws
