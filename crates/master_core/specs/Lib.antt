pub mod Slots
pub mod State
pub mod Orders
pub mod Steps
pub mod Runs
pub mod Loads
