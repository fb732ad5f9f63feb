mod CabinetLemmas
pub mod CallerLemmas
mod CountLemmas
mod SupplyLemmas
mod LinkLemmas
