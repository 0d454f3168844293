pub mod Same
pub mod Running
pub mod Alike
