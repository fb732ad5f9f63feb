pub mod CaseLemmas
pub mod Computed
pub mod DecimalLemmas
pub mod HostLemmas
pub mod ListLemmas
mod HexLemmas
mod EscapedLemmas
mod SpellingLemmas
pub mod ReadAgain
pub mod CallerLemmas
