-- What stands for one talk stands for another whose replies are the same to the requests that were run.
use Rattle.std.proofs.Common.{◌≡◌, ℕ, suc, ◌≤◌, Bool, List, [], ◌++◌, sym, ap, subst, ◌∙◌, arith, Option, None, Some}
use Rattle.rack_types.specs.declared.body.Body.{Ghosts}
use Rattle.rack_types.specs.Request.{Parts}
use Rattle.rack_outside.specs.Link.{Seen}
use Rattle.reply_framing.specs.declared.types.After.TheVariants.{Hijack}
use Rattle.reply_framing.specs.Owes.{Owes}
use Rattle.reply_framing.specs.Reply.{WholeReply}
use Rattle.talk_core.specs.declared.ended.Why.{Why}
use Rattle.talk_core.specs.declared.ended.Why.TheVariants as why
use Rattle.talk_core.specs.Stands.{silent, replies, refuses, times_out, hands_over}
use Rattle.talk_core.specs.Tail.{Voice}
use Rattle.talk_core.specs.Teller.{Teller, AgreesBelow}
use Rattle.talk_core.proofs.CallerLemmas.{stands_agrees, partly_agrees, whole_to_agrees, failure_agrees, ends_agrees, agrees_same, agrees_trans, closes_for}
use Rattle.conn_steps.specs.declared.inside.Inside.{Inside}
use Rattle.conn_steps.specs.declared.moments.Late.{Late}
use Rattle.conn_steps.specs.declared.at.At.{At}
use Rattle.conn_steps.specs.declared.at.At.TheVariants as at
use Rattle.conn_steps.specs.Holds.{Kept, past, Between, Replying, Handed, Refuses, HoldsAt, StandsAt, HoldsBy}
use Rattle.conn_steps.specs.Plain.{EndsPlainly}

module _ {H : Type 0} (V : Voice H) (T U : Teller H) (s : Seen) (over : Bool) (given sent : List ℕ) (c : Kept) (same : AgreesBelow c.calls T U) where
  between_agrees : (now : List ℕ) → Between V T over given sent c now → Between V U over given sent c now
  between_agrees now h = record {
    fed = h.fed;
    ring = h.ring;
    live = h.live;
    unended = h.unended;
    stands = stands_agrees T U V over given sent c.calls silent (now ++ c.unfed) [] (λ i lt r. same i (omega (arith, lt)) r) h.stands;
  }

  replying_agrees : (k : ℕ) (r : Parts) (behind : List ℕ) → Replying V T over given sent c k r behind → Replying V U over given sent c k r behind
  replying_agrees k r behind h = record {
    count = h.count;
    live = h.live;
    closes = closes_for c.ending.closing c.calls ((T k r).after ≡ Hijack) ((U k r).after ≡ Hijack) c.unfed
        (λ e. sym (ap (λ (w : WholeReply H). w.after) (same k (omega (arith, h.count)) r)) ∙ e) h.closes;
    stands = stands_agrees T U V over given sent k (replies r) c.unfed (c.ring ++ behind) (λ i lt q. same i (omega (arith, lt, h.count)) q) h.stands;
  }

  abbrev handed_agrees : Handed V T over given sent c → Handed V U over given sent c
  handed_agrees h = record {
    k = h.k;
    request = h.request;
    first = h.first;
    rest = h.rest;
    count = h.count;
    closes = h.closes;
    stands = stands_agrees T U V over given sent h.k (hands_over h.request h.first) h.rest c.ring (λ i lt q. same i (omega (arith, lt, h.count)) q) h.stands;
  }

  here : (k : ℕ) (r : Parts) → c.calls ≡ suc k → T k r ≡ U k r
  here k r count = same k (omega (arith, count)) r

  ends_so : (w : Why) → EndsPlainly c.ending w V T (past s c given sent over) → EndsPlainly c.ending w V U (past s c given sent over)
  ends_so why.Closed e = ends_agrees T U why.Closed V (past s c given sent over) (λ is. cc) same e
  ends_so why.PeerEnd e = ends_agrees T U why.PeerEnd V (past s c given sent over) (λ is. cc) same e
  ends_so (why.Idle by) e = ends_agrees T U (why.Idle by) V (past s c given sent over) (λ is. cc) same e
  ends_so (why.TimedOut since moment) e = ends_agrees T U (why.TimedOut since moment) V (past s c given sent over) (λ is. cc) same e
  ends_so (why.Stalled since moment) e = (
    e.0,
    record {
      word = e.1.word;
      untimed = e.1.untimed;
      partly = partly_agrees T U V over given sent c.calls c.ending.closing e.1.word e.0 same e.1.partly;
    },
    e.2,
    e.3,
  )
  ends_so (why.Unread level) e = ends_agrees T U (why.Unread level) V (past s c given sent over) (λ is. cc) same e
  ends_so why.ReadFailed e = failure_agrees T U V (past s c given sent over) same e
  ends_so why.WriteFailed e = (
    e.0,
    (
      e.1.0,
      record {
        word = e.1.1.word;
        untimed = e.1.1.untimed;
        partly = partly_agrees T U V over given sent c.calls c.ending.closing e.1.1.word e.1.0 same e.1.1.partly;
      },
      e.1.2,
    ),
  )
  ends_so (why.Halted level) e = (
    e.0,
    (
      e.1.0,
      record {
        word = e.1.1.word;
        untimed = e.1.1.untimed;
        partly = partly_agrees T U V over given sent c.calls c.ending.closing e.1.1.word e.1.0 same e.1.1.partly;
      },
    ),
  )
  ends_so why.NoMemory e = (
    e.0,
    record {
      word = e.1.word;
      untimed = e.1.untimed;
      partly = partly_agrees T U V over given sent c.calls c.ending.closing e.1.word e.0 same e.1.partly;
    },
  )
  ends_so why.Hijacked e = record {
    h = e.h;
    rest = e.rest;
    said = e.said;
    whole = whole_to_agrees T U (past s c given sent over) e.h e.rest e.said same e.whole;
    sent = e.sent;
    drain = e.drain;
    leaves = e.leaves;
  }

  refuses_agrees : (late : Option Late) → Refuses late V T over given sent c → Refuses late V U over given sent c
  refuses_agrees None h = (
    h.0,
    h.1,
    stands_agrees T U V over given sent c.calls (refuses h.0) h.1 c.ring (λ i lt r. same i (omega (arith, lt)) r) h.2,
    h.3,
  )
  refuses_agrees (Some late) h = (
    h.0,
    stands_agrees T U V over given sent c.calls times_out h.0 c.ring (λ i lt r. same i (omega (arith, lt)) r) h.1,
    h.2,
    h.3,
  )

  retold_at : {B : Type 0} (a : At B H) → HoldsAt a V T s over given sent c → HoldsAt a V U s over given sent c
  retold_at {B} at.Reading h = (h.0, h.1, h.2, between_agrees h.0 h.3)
  retold_at {B} at.Asked h = (h.0, h.1, h.2, between_agrees h.0 h.3)
  retold_at {B} (at.Refused f) h = (h.0, h.1, h.2, between_agrees h.0 h.3)
  retold_at {B} (at.Answering f) h = (
    h.0,
    h.1,
    h.2,
    subst (λ (w : WholeReply H). Owes f w h.2) (here h.0 h.1 h.4.count) h.3,
    replying_agrees h.0 h.1 f.rest.bytes h.4,
  )
  retold_at {B} (at.Writing keeps) h = (
    h.0,
    h.1,
    h.2 ∙ ap (λ (w : WholeReply H). w.after) (here h.0 h.1 h.3.count),
    replying_agrees h.0 h.1 [] h.3,
  )
  retold_at {B} (at.Handing who) h = (
    h.0,
    h.1,
    sym (ap (λ (w : WholeReply H). w.after) (here h.0 h.1 h.4.count)) ∙ h.2,
    sym (ap (λ (w : WholeReply H). w.hijacker) (here h.0 h.1 h.4.count)) ∙ h.3,
    replying_agrees h.0 h.1 [] h.4,
  )
  retold_at {B} (at.Listening who) h = record { handed = handed_agrees h.handed; live = h.live; goes = h.goes; behind = h.behind }
  retold_at {B} (at.Speaking who) h = record { handed = handed_agrees h.handed; live = h.live; goes = h.goes; behind = h.behind }
  retold_at {B} at.Parting h = record { handed = handed_agrees h.handed; ended = h.ended; leaves = h.leaves }
  retold_at {B} at.Refusing h = refuses_agrees c.ending.late h
  retold_at {B} (at.Over w) h = ends_so w h

pub retold : {B H : Type 0} (V : Voice H) (T U : Teller H) (s : Seen) (peer : List ℕ) (a : At B H) (c : Kept) → AgreesBelow c.calls T U
    → StandsAt V T s peer a c → StandsAt V U s peer a c
retold {B} {H} V T U s peer a c same h = record {
  given = h.given;
  sent = h.sent;
  over = h.over;
  shows = h.shows;
  counts = h.counts;
  at = retold_at V T U s h.over h.given h.sent c same a h.at;
}
