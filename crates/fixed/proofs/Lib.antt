pub mod Pushes
pub mod Fills
