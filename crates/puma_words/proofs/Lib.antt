pub mod ControlLemmas
pub mod LineLemmas
pub mod MatchesLemmas
pub mod ProgramLemmas
pub mod WordForms
mod WorkedRows
