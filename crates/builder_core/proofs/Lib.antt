pub mod Trees
pub mod Finding
pub mod Folds
pub mod Spreading
pub mod Growing
pub mod Sums
pub mod Grouping
pub mod LastEnd
pub mod Blocks
pub mod Trying
pub mod Calls
pub mod BuildLemmas
pub mod CallerLemmas
mod WorkedRows
