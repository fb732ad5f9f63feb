pub mod CallerLemmas
pub mod RunsLemmas
pub mod ServeLemmas
pub mod StatsLemmas
pub mod TokenLemmas
