pub mod Environment
pub mod Fields
pub mod Host
pub mod Placing
