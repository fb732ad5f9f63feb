mod AppendLemmas
mod BodyLemmas
pub mod CallerLemmas
mod FaultLemmas
mod FillLemmas
mod FramerLemmas
mod LineLemmas
mod PlaceLemmas
mod PullLemmas
mod ReplyLemmas
mod SaidLemmas
mod WorkedRows
