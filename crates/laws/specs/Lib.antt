pub mod Backs
pub mod Lines
