pub mod EnvLemmas
pub mod FieldLemmas
pub mod FixedLemmas
pub mod FoundLemmas
pub mod HostLemmas
pub mod JoinLemmas
pub mod NameLemmas
pub mod PlaceLemmas
mod RaiseLemmas
pub mod RuleLemmas
