pub mod Back
pub mod Dial
pub mod Exchange
pub mod Order
pub mod Reply
pub mod Steps
pub mod Wish
