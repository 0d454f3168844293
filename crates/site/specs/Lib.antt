pub mod Words
pub mod Site
pub mod Maps
pub mod Limits
