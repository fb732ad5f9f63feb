-- What the crate above cites: lemmas over the definitions of steps.
pub use Rattle.conn_steps.proofs.ConnLemmas.{Part, end_of, ends_over, fresh_lives, fresh_stands, live_part, live_stands, owed_says, plain_end_of, plain_ends, says_owed, turn_at}
pub use Rattle.conn_steps.proofs.DrainLemmas.{SameParts, drained_parts, parts_hold}
pub use Rattle.conn_steps.proofs.MovesOfSteps.{goes_on, hearing_owes, may_read, may_state, owes_rightly, owing_saying, reading_place, saying_owing, silent_hears, unsaying}
pub use Rattle.conn_steps.proofs.AtLemmas.{unclosed, untimed}
pub use Rattle.conn_steps.proofs.PlacedLemmas.{has_answered, placed_holds}
pub use Rattle.conn_steps.proofs.RanLemmas.{becomes_none, becomes_then, no_answers, ran_none}
pub use Rattle.conn_steps.proofs.RetellLemmas.{retold}
pub use Rattle.conn_steps.proofs.WriteBehindFill.{says_ending}
pub use Rattle.conn_steps.proofs.ShownLemmas.{appended_nil, counted_sum}
pub use Rattle.conn_steps.proofs.HijackShows.{hears_shown}
pub use Rattle.conn_steps.proofs.UnreadLemmas.{last_is, unread}
