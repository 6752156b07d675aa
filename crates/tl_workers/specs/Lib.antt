pub mod Filled
pub mod Seats
