-- What a link shows behind one read or one write.
use Rattle.std.proofs.Common.{◌≡◌, ℕ, Bool, true, List, ◌++◌, take, Option, None, Some, refl, ap, subst, sym}
use Rattle.rack_outside.specs.declared.link.LinkRead.TheVariants as read
use Rattle.rack_outside.specs.declared.link.LinkWrite.TheVariants as write
use Rattle.rack_outside.specs.Link.{Seen, Tells, marked, Reads, IsOneRead, Writes, IsOneWrite}
use Rattle.rack_outside.specs.Told.{appended}
use Rattle.talk_core.specs.Ended.{Shows}

-- what is told of a list with more behind it
pub tells_appended : (told : Option (List ℕ)) (xs more : List ℕ) → Tells told xs → Tells (appended told more) (xs ++ more)
tells_appended None xs more tells = tt
tells_appended (Some ys) xs more tells = ap (λ x. x ++ more) tells

pub tells_marked : (told : Option Bool) → Tells (marked told) true
tells_marked None = tt
tells_marked (Some b) = refl

-- what is told the same
same : {A : Type 0} {told told' : Option A} (x : A) → told' ≡ told → Tells told x → Tells told' x
same {A} x e tells = subst (λ (o : Option A). Tells o x) (sym e) tells

module _ (s s' : Seen) (peer given sent : List ℕ) (over : Bool) where
  -- a read gave this piece
  pub shows_given : (piece : List ℕ) → IsOneRead s s' → s'.given ≡ appended s.given piece → s'.over ≡ s.over
      → Shows s peer given sent over → Shows s' peer (given ++ piece) sent over
  shows_given piece one given_is over_is h = record {
    peer_is = same peer one.peer h.peer_is;
    given_is = same (given ++ piece) given_is (tells_appended s.given given piece h.given_is);
    sent_is = same sent one.sent h.sent_is;
    over_is = same over over_is h.over_is;
  }

  -- a read gave nothing
  pub shows_unread : IsOneRead s s' → s'.given ≡ s.given → s'.over ≡ s.over → Shows s peer given sent over → Shows s' peer given sent over
  shows_unread one given_is over_is h =
      record { peer_is = same peer one.peer h.peer_is; given_is = same given given_is h.given_is; sent_is = same sent one.sent h.sent_is; over_is = same over over_is h.over_is }

  -- a read told the end
  pub shows_over : IsOneRead s s' → s'.given ≡ s.given → s'.over ≡ marked s.over → Shows s peer given sent over → Shows s' peer given sent true
  shows_over one given_is over_is h = record {
    peer_is = same peer one.peer h.peer_is;
    given_is = same given given_is h.given_is;
    sent_is = same sent one.sent h.sent_is;
    over_is = same true over_is (tells_marked s.over);
  }

  -- a write took this piece
  pub shows_sent : (piece : List ℕ) → IsOneWrite s s' → s'.sent ≡ appended s.sent piece → Shows s peer given sent over → Shows s' peer given (sent ++ piece) over
  shows_sent piece one sent_is h = record {
    peer_is = same peer one.peer h.peer_is;
    given_is = same given one.given h.given_is;
    sent_is = same (sent ++ piece) sent_is (tells_appended s.sent sent piece h.sent_is);
    over_is = same over one.over h.over_is;
  }

  -- a write took nothing
  pub shows_unsent : IsOneWrite s s' → s'.sent ≡ s.sent → Shows s peer given sent over → Shows s' peer given sent over
  shows_unsent one sent_is h =
      record { peer_is = same peer one.peer h.peer_is; given_is = same given one.given h.given_is; sent_is = same sent sent_is h.sent_is; over_is = same over one.over h.over_is }

  -- the same by the answer of a read
  pub shows_bytes : (n : ℕ) (room : List ℕ) → Reads (read.Bytes n) room s s' → IsOneRead s s' → Shows s peer given sent over
      → Shows s' peer (given ++ take n room) sent over
  shows_bytes n room reads one h = shows_given (take n room) one reads.2 reads.3 h

  pub shows_not_yet : (room : List ℕ) → Reads read.NotYet room s s' → IsOneRead s s' → Shows s peer given sent over → Shows s' peer given sent over
  shows_not_yet room reads one h = shows_unread one reads.0 reads.1 h

  pub shows_end : (room : List ℕ) → Reads read.End room s s' → IsOneRead s s' → Shows s peer given sent over → Shows s' peer given sent true
  shows_end room reads one h = shows_over one reads.0 reads.1 h

  pub shows_failed : (room : List ℕ) → Reads read.Failed room s s' → IsOneRead s s' → Shows s peer given sent over → Shows s' peer given sent over
  shows_failed room reads one h = shows_unread one reads.0 reads.1 h

  -- and by that of a write
  pub shows_took : (n : ℕ) (piece : List ℕ) → Writes (write.Took n) piece s s' → IsOneWrite s s' → Shows s peer given sent over
      → Shows s' peer given (sent ++ take n piece) over
  shows_took n piece writes one h = shows_sent (take n piece) one writes.2 h

  pub shows_waits : (piece : List ℕ) → Writes write.NotYet piece s s' → IsOneWrite s s' → Shows s peer given sent over → Shows s' peer given sent over
  shows_waits piece writes one h = shows_unsent one writes.0 h

  pub shows_broken : (piece : List ℕ) → Writes write.Failed piece s s' → IsOneWrite s s' → Shows s peer given sent over → Shows s' peer given sent over
  shows_broken piece writes one h = shows_unsent one writes.0 h

  pub shows_no_memory : (piece : List ℕ) → Writes write.NoMemory piece s s' → IsOneWrite s s' → Shows s peer given sent over → Shows s' peer given sent over
  shows_no_memory piece writes one h = shows_unsent one writes h
