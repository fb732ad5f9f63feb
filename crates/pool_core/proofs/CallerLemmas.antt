-- What crates above cite of this crate's proofs.
-- Lists with repeats: the laws.
pub use Rattle.pool_core.proofs.RepeatLemmas.{SameElements-refl, SameElements-sym, SameElements-trans, SameElements-append, SameElements-append_comm, SameElements-cancel, SameElements-map, SameElements-length, SameElements-nil, SameElements-permutation, permutation-SameElements, SameElements-often, often-SameElements}
-- A closure that takes several lanes and passes to another thread.
pub use Rattle.pool_core.proofs.SendLemmas.{struct_may, PassRow, pass_send, QueueRow, LaneRow, lane_send, lane_sync, shared_lane_send}
