pub mod Asked
pub mod Rooms
pub mod Visits
