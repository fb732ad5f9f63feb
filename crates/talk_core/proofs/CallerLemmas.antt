-- What crates above may cite: lemmas over the public definitions.
pub use Rattle.talk_core.proofs.TalkLemmas.{asks_snoc, asks_more, replies_snoc, replies_append, keep_snoc}
pub use Rattle.talk_core.proofs.StandsLemmas.{stands_new, silent_over, silent_sent, silent_asks, stands_asked, stands_refused, stands_timed, stands_sent, stands_given, stands_kept, stands_handed}
pub use Rattle.talk_core.proofs.HijackLemmas.{tail_behind, tail_so_far, tail_at_end, stands_heard, stands_over}
pub use Rattle.talk_core.proofs.LastLemmas.{reply_keeps, tell_keeps, tell_never_keeps, not_last_below, is_last_none}
pub use Rattle.talk_core.proofs.EndedLemmas.{closes_for, closes_none, whole_closed, whole_refused, whole_wanting, whole_timed, whole_handed, lacks_of}
pub use Rattle.talk_core.proofs.RetellLemmas.{replies_agree, keep_agrees, stands_agrees, partly_agrees, whole_agrees, whole_to_agrees, failure_agrees, ends_agrees, closing_agrees}
pub use Rattle.talk_core.proofs.CompareLemmas.{SameFront, front_unique, GoesFurther, GoesLess, asks_compare, asked_begins, answered_begins, stop_unique, one_talk}
pub use Rattle.talk_core.proofs.LawLemmas.{stays, keep_nth, partly_stands}
pub use Rattle.talk_core.proofs.ChunkedLemmas.{read_again}
pub use Rattle.talk_core.proofs.ExistenceLemmas.{some_talk}
pub use Rattle.talk_core.proofs.LivesLemmas.{lives_later, phases_up, phase_below, phase_behind, placed_agrees, placed_phase, placed_are, placed_longer, placed_stay, one_life, unused_placed}
pub use Rattle.talk_core.proofs.RunLemmas.{told_at, agrees_same, agrees_less, agrees_trans, told_before, told_here}
pub use Rattle.talk_core.proofs.ShowsLemmas.{tells_appended, tells_marked, shows_given, shows_unread, shows_over, shows_sent, shows_unsent, shows_bytes, shows_not_yet, shows_end, shows_failed, shows_took, shows_waits, shows_broken, shows_no_memory}
pub use Rattle.talk_core.proofs.CountLemmas.{counted_next, counted_more, lacks_some, taken_more}
pub use Rattle.talk_core.proofs.TextLemmas.{begins_answer, begins_less}
pub use Rattle.talk_core.proofs.AnswerLemmas.{one_answer, undrained, answer_whole, answer_closed, closed_on, answer_handed, answer_stopped, stopped_on, hijack_stops, hijack_untimed, failure_ends, stands_more}
pub use Rattle.talk_core.proofs.UndrainedLemmas.{one_hijack}
pub use Rattle.talk_core.proofs.AnsweredLemmas.{joined, joined_below, joined_from, from_before, from_here, from_agrees, from_joined, tell_same, answers_same, answers_append, answers_joined, asked_append, appended_none, appended_twice, also_appended, asked_same, has_more, has_next}
pub use Rattle.talk_core.proofs.AskedLemmas.{reply_persists, part_asked, whole_asked, asked_more, asked_talk}
pub use Rattle.talk_core.proofs.SentLemmas.{part_sent, whole_sent_of, timed_sent, handed_sent, sent_since}
