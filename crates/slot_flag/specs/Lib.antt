pub mod Rule
pub mod Seat
