pub mod Answers
pub mod Contents
pub mod Lines
pub mod Laws
pub mod Words
