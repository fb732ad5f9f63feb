pub mod Holds
pub mod Shown
pub mod Calls
pub mod Answers
pub mod Ran
pub mod Within
pub mod Transfer
pub mod Stopping
