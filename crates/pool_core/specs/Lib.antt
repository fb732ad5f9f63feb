pub mod Book
pub mod Pass
pub mod Repeats
pub mod Rule
