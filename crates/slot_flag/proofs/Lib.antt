pub mod RuleLemmas
pub mod ViewLemmas
