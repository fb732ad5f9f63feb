pub mod AppLemmas
pub mod Computed
pub mod RuleLemmas
pub mod WordLemmas
pub mod WordsComputed
