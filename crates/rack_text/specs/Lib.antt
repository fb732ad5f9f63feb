pub mod Case
pub mod Decimal
pub mod Escaped
pub mod Host
pub mod Lists
