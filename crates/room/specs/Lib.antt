pub mod Rooms
pub mod Plans
