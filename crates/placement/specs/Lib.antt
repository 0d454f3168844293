pub mod Members
pub mod Seats
pub mod Resolved
pub mod Firsts
