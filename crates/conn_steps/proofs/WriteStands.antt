-- What stands while something is said.
use Rattle.std.proofs.Common.{◌≡◌, ℕ, ◌+◌, ◌<◌, Bool, List, [], ◌++◌, length, sym, ap, subst, ◌∙◌, append_assoc, arith, refl, Option, None, Some}
use Rattle.std.specs.Prelude.{is_some}
use Rattle.std.proofs.lemmas.List.{append-nil}
use Rattle.rack_outside.specs.Link.{Seen, IsOneWrite}
use Rattle.rack_outside.specs.Told.{Rose, appended}
use Rattle.rack_outside.proofs.CallerLemmas.{rose_some}
use Rattle.talk_core.specs.declared.ended.Why.TheVariants as why
use Rattle.talk_core.specs.Ended.{IsTimed}
use Rattle.talk_core.specs.Stands.{Word, Stands, ClosesAt, IsHijack, replies, refuses, times_out, hands_over, asked_by}
use Rattle.talk_core.specs.Tail.{Voice}
use Rattle.talk_core.specs.Teller.{Teller}
use Rattle.talk_core.proofs.CallerLemmas.{lacks_some, stands_sent, shows_sent, shows_unsent, closes_none}
use Rattle.conn_steps.specs.declared.moments.Late.{Late}
use Rattle.conn_steps.specs.declared.at.At.{At}
use Rattle.conn_steps.specs.declared.at.At.TheVariants as at
use Rattle.conn_steps.specs.Holds.{Kept, Handed, Refuses, HoldsAt, StandsAt}
use Rattle.conn_steps.specs.At.{IsSaying}
use Rattle.conn_steps.proofs.AtLemmas.{over_same}

-- the parts with other bytes in the ring
abbrev pub with_ring : Kept → List ℕ → Kept
with_ring c ring = record c { ring = ring }

-- a place where something is being said: what stands there, and how to come back to it
pub record Saying {B H : Type 0} (a : At B H) (V : Voice H) (T : Teller H) (over : Bool) (given sent : List ℕ) (c : Kept) : Type 0 where
  pub k : ℕ
  pub word : Word H
  pub untimed : IsTimed word (is_some c.ending.late)
  pub rest : List ℕ
  pub tail : List ℕ
  pub calls_is : c.calls ≡ k + length (asked_by word)
  pub closes : ClosesAt c.ending.closing c.calls (IsHijack T k word) rest
  pub stands : Stands V T over given sent k word rest (c.ring ++ tail)
  pub back : (s : Seen) (sent' ring' : List ℕ) → Stands V T over given sent' k word rest (ring' ++ tail)
      → HoldsAt a V T s over given sent' (with_ring c ring')

-- what was said to a hijack, with more sent
abbrev handed_back : {H : Type 0} (V : Voice H) (T : Teller H) (over : Bool) (given sent sent' : List ℕ) (c : Kept) (ring' : List ℕ)
    (q : Handed V T over given sent c) → Stands V T over given sent' q.k (hands_over q.request q.first) q.rest (ring' ++ [])
    → Handed V T over given sent' (with_ring c ring')
handed_back {H} V T over given sent sent' c ring' q t = record {
  k = q.k;
  request = q.request;
  first = q.first;
  rest = q.rest;
  count = q.count;
  closes = q.closes;
  stands = subst (λ (y : List ℕ). Stands V T over given sent' q.k (hands_over q.request q.first) q.rest y) (append-nil ring') t;
}

-- the reply that names a refusal, or that a request took too long
refusing : {B H : Type 0} (V : Voice H) (T : Teller H) (over : Bool) (given sent : List ℕ) (c : Kept) (late : Option Late) → c.ending.late ≡ late
    → Refuses late V T over given sent c → Saying {B = B} at.Refusing V T over given sent c
refusing {B} {H} V T over given sent c None is h =
    let n : c.calls ≡ c.calls + 0 = omega arith in
    record {
      k = c.calls;
      word = refuses h.0;
      untimed = tt;
      rest = h.1;
      tail = [];
      calls_is = n;
      closes = closes_none c.ending.closing c.calls ⊥ h.1 h.3;
      stands = subst (λ (y : List ℕ). Stands V T over given sent c.calls (refuses h.0) h.1 y) (sym (append-nil c.ring)) h.2;
      back = λ s' sent' ring' t. subst (λ (x : Option Late). Refuses x V T over given sent' (with_ring c ring')) (sym is)
          (h.0, h.1, subst (λ (y : List ℕ). Stands V T over given sent' c.calls (refuses h.0) h.1 y) (append-nil ring') t, h.3);
    }
refusing {B} {H} V T over given sent c (Some late) is h =
    let n : c.calls ≡ c.calls + 0 = omega arith in
    record {
      k = c.calls;
      word = times_out;
      untimed = ap (λ (x : Option Late). is_some x) is;
      rest = h.0;
      tail = [];
      calls_is = n;
      closes = closes_none c.ending.closing c.calls ⊥ h.0 h.2;
      stands = subst (λ (y : List ℕ). Stands V T over given sent c.calls times_out h.0 y) (sym (append-nil c.ring)) h.1;
      back = λ s' sent' ring' t. subst (λ (x : Option Late). Refuses x V T over given sent' (with_ring c ring')) (sym is)
          (h.0, subst (λ (y : List ℕ). Stands V T over given sent' c.calls times_out h.0 y) (append-nil ring') t, h.2, h.3);
    }

pub saying : {B H : Type 0} (a : At B H) (V : Voice H) (T : Teller H) (s : Seen) (over : Bool) (given sent : List ℕ) (c : Kept) → IsSaying a
    → HoldsAt a V T s over given sent c → Saying a V T over given sent c
saying {B} {H} at.Reading V T s over given sent c x h = absurd x
saying {B} {H} at.Asked V T s over given sent c x h = absurd x
saying {B} {H} (at.Refused f) V T s over given sent c x h = absurd x
saying {B} {H} (at.Answering framer) V T s over given sent c x h =
    let n : c.calls ≡ h.0 + 1 = omega (arith, h.4.count) in
    record {
      k = h.0;
      word = replies h.1;
      untimed = tt;
      rest = c.unfed;
      tail = framer.rest.bytes;
      calls_is = n;
      closes = h.4.closes;
      stands = h.4.stands;
      back = λ s' sent' ring' t. (h.0, h.1, h.2, h.3, record { count = h.4.count; live = h.4.live; closes = h.4.closes; stands = t });
    }
saying {B} {H} (at.Writing keeps) V T s over given sent c x h =
    let n : c.calls ≡ h.0 + 1 = omega (arith, h.3.count) in
    record {
      k = h.0;
      word = replies h.1;
      untimed = tt;
      rest = c.unfed;
      tail = [];
      calls_is = n;
      closes = h.3.closes;
      stands = h.3.stands;
      back = λ s' sent' ring' t. (h.0, h.1, h.2, record { count = h.3.count; live = h.3.live; closes = h.3.closes; stands = t });
    }
saying {B} {H} (at.Handing who) V T s over given sent c x h =
    let n : c.calls ≡ h.0 + 1 = omega (arith, h.4.count) in
    record {
      k = h.0;
      word = replies h.1;
      untimed = tt;
      rest = c.unfed;
      tail = [];
      calls_is = n;
      closes = h.4.closes;
      stands = h.4.stands;
      back = λ s' sent' ring' t. (h.0, h.1, h.2, h.3, record { count = h.4.count; live = h.4.live; closes = h.4.closes; stands = t });
    }
saying {B} {H} at.Refusing V T s over given sent c x h = refusing V T over given sent c c.ending.late refl h
saying {B} {H} (at.Listening who) V T s over given sent c x h = absurd x
saying {B} {H} (at.Speaking who) V T s over given sent c x h =
    let q : Handed V T over given sent c = h.handed in
    let n : c.calls ≡ q.k + 1 = omega (arith, q.count) in
    record {
      k = q.k;
      word = hands_over q.request q.first;
      untimed = tt;
      rest = q.rest;
      tail = [];
      calls_is = n;
      closes = q.closes;
      stands = subst (λ (y : List ℕ). Stands V T over given sent q.k (hands_over q.request q.first) q.rest y) (sym (append-nil c.ring)) q.stands;
      back = λ s' sent' ring' t. record { handed = handed_back V T over given sent sent' c ring' q t; live = h.live; goes = h.goes; behind = h.behind };
    }
saying {B} {H} at.Parting V T s over given sent c x h =
    let q : Handed V T over given sent c = h.handed in
    let n : c.calls ≡ q.k + 1 = omega (arith, q.count) in
    record {
      k = q.k;
      word = hands_over q.request q.first;
      untimed = tt;
      rest = q.rest;
      tail = [];
      calls_is = n;
      closes = q.closes;
      stands = subst (λ (y : List ℕ). Stands V T over given sent q.k (hands_over q.request q.first) q.rest y) (sym (append-nil c.ring)) q.stands;
      back = λ s' sent' ring' t. record { handed = handed_back V T over given sent sent' c ring' q t; ended = h.ended; leaves = h.leaves };
    }
saying {B} {H} (at.Over ended) V T s over given sent c x h = absurd x

module _ {B H : Type 0} (a : At B H) (V : Voice H) (T : Teller H) (old new : Seen) (peer : List ℕ) (c : Kept) (is : IsSaying a)
    (one : IsOneWrite old new) where
  -- the link took a piece of the ring
  pub took : (piece after : List ℕ) → c.ring ≡ piece ++ after → new.sent ≡ appended old.sent piece
      → StandsAt V T old peer a c → StandsAt V T new peer a (with_ring c after)
  took piece after ring_is sent_is h =
      let q : Saying a V T h.over h.given h.sent c = saying a V T old h.over h.given h.sent c is h.at in
      let e : c.ring ++ q.tail ≡ piece ++ (after ++ q.tail) = ap (λ x. x ++ q.tail) ring_is ∙ append_assoc piece after q.tail in
      record {
        given = h.given;
        sent = h.sent ++ piece;
        over = h.over;
        shows = shows_sent old new peer h.given h.sent h.over piece one sent_is h.shows;
        counts = h.counts;
        at = q.back new (h.sent ++ piece) after
            (stands_sent V T h.over h.given h.sent piece (after ++ q.tail) q.rest q.k q.word
            (subst (λ (x : List ℕ). Stands V T h.over h.given h.sent q.k q.word q.rest x) e q.stands));
      }

  -- the link took nothing yet
  pub untaken : new.sent ≡ old.sent → StandsAt V T old peer a c → StandsAt V T new peer a c
  untaken sent_is h =
      let q : Saying a V T h.over h.given h.sent c = saying a V T old h.over h.given h.sent c is h.at in
      record {
        given = h.given;
        sent = h.sent;
        over = h.over;
        shows = shows_unsent old new peer h.given h.sent h.over one sent_is h.shows;
        counts = h.counts;
        at = q.back new h.sent c.ring q.stands;
      }

  -- the write failed
  pub write_failed : (d : Kept) → d.calls ≡ c.calls → d.taken ≡ c.taken → d.ending ≡ c.ending → 0 < length c.ring → new.sent ≡ old.sent → Rose old.failed_writes new.failed_writes
      → StandsAt V T old peer a c → StandsAt {B = B} V T new peer (at.Over why.WriteFailed) d
  write_failed d n t m some sent_is rose h =
      let q : Saying a V T h.over h.given h.sent c = saying a V T old h.over h.given h.sent c is h.at in
      record {
        given = h.given;
        sent = h.sent;
        over = h.over;
        shows = shows_unsent old new peer h.given h.sent h.over one sent_is h.shows;
        counts = t ∙ h.counts;
        at = over_same why.WriteFailed V T new h.over h.given h.sent c d n m (
          rose_some old.failed_writes new.failed_writes rose,
          (
            c.ring ++ q.tail,
            record { word = q.word; untimed = q.untimed; partly = record { k = q.k; rest = q.rest; calls_is = q.calls_is; stands = q.stands; closes = q.closes } },
            lacks_some c.ring q.tail some,
          ),
        );
      }

  -- the write wanted memory
  pub write_lacks : (d : Kept) → d.calls ≡ c.calls → d.taken ≡ c.taken → d.ending ≡ c.ending → new.sent ≡ old.sent
      → StandsAt V T old peer a c → StandsAt {B = B} V T new peer (at.Over why.NoMemory) d
  write_lacks d n t m sent_is h =
      let q : Saying a V T h.over h.given h.sent c = saying a V T old h.over h.given h.sent c is h.at in
      record {
        given = h.given;
        sent = h.sent;
        over = h.over;
        shows = shows_unsent old new peer h.given h.sent h.over one sent_is h.shows;
        counts = t ∙ h.counts;
        at = over_same why.NoMemory V T new h.over h.given h.sent c d n m
            (c.ring ++ q.tail, record { word = q.word; untimed = q.untimed; partly = record { k = q.k; rest = q.rest; calls_is = q.calls_is; stands = q.stands; closes = q.closes } });
      }
