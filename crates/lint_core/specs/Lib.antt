pub mod Found
pub mod Watch
