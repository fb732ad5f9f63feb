pub mod CallerLemmas
pub mod FormLemmas
pub mod HeaderLemmas
pub mod MethodLemmas
pub mod UndoLemmas
mod WorkedRows
