pub mod CallerLemmas
pub mod RepeatLemmas
pub mod RuleLemmas
pub mod SendLemmas
pub mod ViewLemmas
