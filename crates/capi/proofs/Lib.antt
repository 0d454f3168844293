pub mod Lined
pub mod Planned
pub mod Taken
pub mod Told
