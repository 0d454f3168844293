pub mod Looks
pub mod Same
