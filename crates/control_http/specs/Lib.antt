pub mod Field
pub mod Wish
pub mod Stats
pub mod Said
pub mod Runs
pub mod Leads
