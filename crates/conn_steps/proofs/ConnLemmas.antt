-- A connection at its start, at its end, and while it lives.
use Rattle.std.proofs.Common.{◌≡◌, ◌≢◌, ℕ, ◌+◌, ◌<◌, ◌≤◌, Bool, false, List, [], ◌∷◌, ◌++◌, length, refl, sym, ap, subst, ◌∙◌, arith, length-append, None, Some, Option, ◌⊎◌, inl, inr}
use Rattle.std.specs.Prelude.{is_some}
use Rattle.std.proofs.lemmas.List.{append-nil}
use Rattle.rack_types.specs.declared.answer.Answer.{Answer}
use Rattle.rack_types.specs.declared.body.Body.{Ghosts}
use Rattle.rack_types.specs.Body.{Content}
use Rattle.rack_types.specs.Env.{Pairs}
use Rattle.rack_types.specs.declared.peer.Local.{Local}
use Rattle.rack_types.specs.Request.{Parts}
use Rattle.rack_env.specs.Environment.{env_pairs}
use Rattle.rack_outside.specs.Link.{Seen, Tells, IsTouched}
use Rattle.reply_framing.specs.Reply.{reply}
use Rattle.message_framing.specs.declared.intake.Intake.{Intake}
use Rattle.message_framing.specs.Intake.{Fed}
use Rattle.message_framing.proofs.CallerLemmas.{wanting_nil}
use Rattle.talk_core.specs.declared.ended.Life.{Life}
use Rattle.talk_core.specs.declared.ended.Why.{Why}
use Rattle.talk_core.specs.declared.ended.Why.TheVariants as why
use Rattle.talk_core.specs.Lives.{AreLives}
use Rattle.talk_core.specs.Ended.{Shows, AreEndedLives, IsEnded, StandsForTalk, IsTimed, EndsBy, Past}
use Rattle.talk_core.specs.Stands.{Word, Stands, silent, replies, refuses, times_out, hands_over, Partly}
use Rattle.talk_core.specs.Tail.{Voice}
use Rattle.talk_core.specs.Teller.{Stack, Stacks, Teller, AgreesBelow, tell, last_phase, reply_of, ask_of, is_last}
use Rattle.talk_core.proofs.CallerLemmas.{failure_ends, stands_new, lives_later, phase_behind, closes_none, closing_agrees, agrees_same, agrees_less}
use Rattle.conn_steps.specs.declared.inside.Inside.{Inside}
use Rattle.conn_steps.specs.declared.moments.Ending.{Ending}
use Rattle.conn_steps.specs.declared.moments.Late.{Late}
use Rattle.conn_steps.specs.declared.moments.Moments.{Moments}
use Rattle.conn_steps.specs.declared.at.At.{At}
use Rattle.conn_steps.specs.declared.at.At.TheVariants as at
use Rattle.conn_steps.specs.declared.state.State.TheVariants as state
use Rattle.conn_steps.specs.Holds.{Kept, kept, past, Between, Replying, Handed, Refuses, HoldsAt, StandsAt, HoldsBy}
use Rattle.conn_steps.specs.Inner.{TellsBy, TellsFrom}
use Rattle.conn_steps.specs.Keeps.{Drains, DrainsOnce}
use Rattle.conn_steps.specs.Opened.{IsFresh, untold}
use Rattle.conn_steps.specs.Owner.{EndsAnyTime}
use Rattle.conn_steps.specs.At.{IsSaying, state_at}
use Rattle.conn_steps.specs.Plain.{EndsPlainly, IsPlainEnd, EndsByReplies}
use Rattle.conn_steps.specs.Rests.{RestsAt, IsUnended}
use Rattle.conn_steps.specs.Shown.{Shown, shows, owed_at}
use Rattle.conn_steps.proofs.AtLemmas.{over_same, unclosed}
use Rattle.conn_steps.proofs.RetellLemmas.{retold}

-- at its start
at_start : {B H : Type 0} (V : Voice H) (T : Teller H) (s : Seen) (peer : List ℕ) (c : Kept) → Shows s peer [] [] false
    → Fed c.intake [] → c.unfed ≡ [] → c.ring ≡ [] → c.calls ≡ 0 → c.taken ≡ 0 → c.ending ≡ untold → StandsAt {B = B} V T s peer at.Reading c
at_start {B} {H} V T s peer c shows fed unfed ring calls taken ending = record {
  given = [];
  sent = [];
  over = false;
  shows = shows;
  counts = omega (arith, taken);
  at = (
    [],
    wanting_nil,
    unfed,
    record {
      fed = fed;
      ring = ring;
      live = refl;
      unended = subst IsUnended (sym ending) (tt, tt);
      stands = subst (λ (n : ℕ). Stands V T false [] [] n silent ([] ++ c.unfed) []) (sym calls)
          (subst (λ (x : List ℕ). Stands V T false [] [] 0 silent x []) (sym unfed) (stands_new V T false));
    },
  );
}

pub fresh_stands : {B H : Type 0} {g : Ghosts B} (V : Voice H) (T : Teller H) (s : Seen) (peer : List ℕ) (local : Local) (phase now : ℕ) (p : Inside B H g)
    → IsFresh peer local phase now p → Shows s peer [] [] false → HoldsBy V T s p
fresh_stands {B} {H} {g} V T s peer local phase now p f shows =
    subst (λ (a : At B H). StandsAt V T s p.peer a (kept p)) (sym f.at_is)
    (at_start V T s p.peer (kept p) (subst (λ (x : List ℕ). Shows s x [] [] false) (sym f.peer_is) shows) f.fed f.unfed f.ring f.calls f.taken f.ending)

pub fresh_lives : {B H : Type 0} {g : Ghosts B} (peer : List ℕ) (local : Local) (phase now : ℕ) (p : Inside B H g) → IsFresh peer local phase now p
    → AreLives p.lives.items p.calls
fresh_lives {B} {H} {g} peer local phase now p f =
    let few : 1 ≤ 64 = omega arith in subst (λ (x : List Life). AreLives x p.calls) (sym f.lives_are) (refl, few, tt)

-- the lives of one that ended
ended_lives : (lives : List Life) (ended : Why) (p : Past) → AreLives lives p.calls → AreEndedLives lives ended p
ended_lives [] ended p h = absurd h
ended_lives (life ∷ lives) ended p h = h

-- an end whose word is named is an end
pub plain_ends : {H : Type 0} (m : Ending) (ended : Why) (V : Voice H) (T : Teller H) (p : Past) → EndsPlainly m ended V T p → EndsBy ended V T p
plain_ends {H} m why.Closed V T p e = e
plain_ends {H} m why.PeerEnd V T p e = e
plain_ends {H} m (why.Idle by) V T p e = e
plain_ends {H} m (why.TimedOut since moment) V T p e = e
plain_ends {H} m (why.Stalled since moment) V T p e = (e.0, record { word = e.1.word; partly = e.1.partly }, e.2, e.3)
plain_ends {H} m (why.Unread level) V T p e = e
plain_ends {H} m why.ReadFailed V T p e = failure_ends V T p e
plain_ends {H} m why.WriteFailed V T p e = (e.0, (e.1.0, record { word = e.1.1.word; partly = e.1.1.partly }, e.1.2))
plain_ends {H} m (why.Halted level) V T p e = (e.0, (e.1.0, record { word = e.1.1.word; partly = e.1.1.partly }))
plain_ends {H} m why.NoMemory V T p e = (e.0, record { word = e.1.word; partly = e.1.partly })
plain_ends {H} m why.Hijacked V T p e = (e.h, e.rest, e.said, e.whole, e.sent, e.drain)

-- its end
end_at : {L B H : Type 0} {g : Ghosts B} (seen : L → Seen) (V : Voice H) (S : Stacks H) (number : ℕ) (link : L) (p : Inside B H g) (ended : Why)
    → p.at ≡ at.Over ended → AreLives p.lives.items p.calls → HoldsBy V (tell S p.lives.items p.local p.peer p.ending.closing) (seen link) p
    → IsEnded L seen V S p.local p.peer (record { number = number; link = link; lives = p.lives; calls = p.calls; told = p.ending.told; closing = p.ending.closing; why = ended })
end_at {L} {B} {H} {g} seen V S number link p ended is lives h =
    let T : Teller H = tell S p.lives.items p.local p.peer p.ending.closing in
    record {
      given = h.given;
      sent = h.sent;
      over = h.over;
      shows = h.shows;
      lives = ended_lives p.lives.items ended (past (seen link) (kept p) h.given h.sent h.over) lives;
      ends = plain_ends p.ending ended V T (past (seen link) (kept p) h.given h.sent h.over)
          (subst (λ (a : At B H). HoldsAt a V T (seen link) h.over h.given h.sent (kept p)) is h.at);
    }

-- the same, with what was being said
plain_end_at : {L B H : Type 0} {g : Ghosts B} (seen : L → Seen) (V : Voice H) (S : Stacks H) (number : ℕ) (link : L) (p : Inside B H g) (ended : Why)
    → p.at ≡ at.Over ended → HoldsBy V (tell S p.lives.items p.local p.peer p.ending.closing) (seen link) p
    → IsPlainEnd L seen V S p.local p.peer p.ending (record { number = number; link = link; lives = p.lives; calls = p.calls; told = p.ending.told; closing = p.ending.closing; why = ended })
plain_end_at {L} {B} {H} {g} seen V S number link p ended is h =
    let T : Teller H = tell S p.lives.items p.local p.peer p.ending.closing in
    record {
      given = h.given;
      sent = h.sent;
      over = h.over;
      shows = h.shows;
      ends = subst (λ (a : At B H). HoldsAt a V T (seen link) h.over h.given h.sent (kept p)) is h.at;
    }

pub plain_end_of : {L B H : Type 0} {g : Ghosts B} (seen : L → Seen) (V : Voice H) (S : Stacks H) (number : ℕ) (link : L) (p q : Inside B H g) (ended : Why)
    → q ≡ p → q.at ≡ at.Over ended → HoldsBy V (tell S p.lives.items p.local p.peer p.ending.closing) (seen link) p
    → IsPlainEnd L seen V S p.local p.peer p.ending (record { number = number; link = link; lives = q.lives; calls = q.calls; told = q.ending.told; closing = q.ending.closing; why = ended })
plain_end_of {L} {B} {H} {g} seen V S number link p q ended same is h =
    subst (λ (x : Inside B H g). IsPlainEnd L seen V S p.local p.peer p.ending
    (record { number = number; link = link; lives = x.lives; calls = x.calls; told = x.ending.told; closing = x.ending.closing; why = ended })) (sym same)
    (plain_end_at seen V S number link p ended (sym (ap (λ (x : Inside B H g). x.at) same) ∙ is) h)

pub end_of : {L B H : Type 0} {g : Ghosts B} (seen : L → Seen) (V : Voice H) (S : Stacks H) (number : ℕ) (link : L) (p q : Inside B H g) (ended : Why)
    → q ≡ p → q.at ≡ at.Over ended → AreLives p.lives.items p.calls → HoldsBy V (tell S p.lives.items p.local p.peer p.ending.closing) (seen link) p
    → IsEnded L seen V S p.local p.peer (record { number = number; link = link; lives = q.lives; calls = q.calls; told = q.ending.told; closing = q.ending.closing; why = ended })
end_of {L} {B} {H} {g} seen V S number link p q ended same is lives h =
    subst (λ (x : Inside B H g). IsEnded L seen V S p.local p.peer
    (record { number = number; link = link; lives = x.lives; calls = x.calls; told = x.ending.told; closing = x.ending.closing; why = ended })) (sym same)
    (end_at seen V S number link p ended (sym (ap (λ (x : Inside B H g). x.at) same) ∙ is) lives h)

-- the same over any replies
pub ends_over : {L B H : Type 0} {g : Ghosts B} (seen : L → Seen) (V : Voice H) (T : Teller H) (number : ℕ) (link : L) (p q : Inside B H g) (ended : Why)
    → q ≡ p → q.at ≡ at.Over ended → HoldsBy V T (seen link) p
    → EndsByReplies L seen V T p.peer p.ending (record { number = number; link = link; lives = q.lives; calls = q.calls; told = q.ending.told; closing = q.ending.closing; why = ended })
ends_over {L} {B} {H} {g} seen V T number link p q ended same is h =
    subst (λ (x : Inside B H g). EndsByReplies L seen V T p.peer p.ending
    (record { number = number; link = link; lives = x.lives; calls = x.calls; told = x.ending.told; closing = x.ending.closing; why = ended })) (sym same)
    (record {
      given = h.given;
      sent = h.sent;
      over = h.over;
      shows = h.shows;
      ends = subst (λ (a : At B H). HoldsAt a V T (seen link) h.over h.given h.sent (kept p)) (sym (ap (λ (x : Inside B H g). x.at) same) ∙ is) h.at;
    })

-- while it lives it stands in part for its talk; what is owed is lacking
pub record Part {H : Type 0} (V : Voice H) (T : Teller H) (over : Bool) (given sent : List ℕ) (calls : ℕ) (closing : Option ℕ) (late : Bool)
    (owed : List ℕ) : Type 0 where
  pub word : Word H
  pub partly : Partly V T over given sent calls closing word owed
  pub timed : IsTimed word late

abbrev pub PartOf : {H : Type 0} → Voice H → Teller H → Bool → List ℕ → List ℕ → Kept → List ℕ → Type 0
PartOf {H} V T over given sent c owed = Part V T over given sent c.calls c.ending.closing (is_some c.ending.late) owed

silent_part : {H : Type 0} (V : Voice H) (T : Teller H) (over : Bool) (given sent now : List ℕ) (c : Kept)
    → Between V T over given sent c now → PartOf V T over given sent c c.ring
silent_part {H} V T over given sent now c h =
    let n : c.calls ≡ c.calls + 0 = omega arith in
    subst (λ (x : List ℕ). PartOf V T over given sent c x) (sym h.ring)
    (record {
      word = silent;
      partly = record {
        k = c.calls;
        rest = now ++ c.unfed;
        calls_is = n;
        stands = h.stands;
        closes = closes_none c.ending.closing c.calls ⊥ (now ++ c.unfed) (unclosed c.ending h.unended);
      };
      timed = tt;
    })

replying_part : {H : Type 0} (V : Voice H) (T : Teller H) (over : Bool) (given sent : List ℕ) (c : Kept) (k : ℕ) (r : Parts) (behind : List ℕ)
    → Replying V T over given sent c k r behind → PartOf V T over given sent c (c.ring ++ behind)
replying_part {H} V T over given sent c k r behind h =
    let n : c.calls ≡ k + 1 = omega (arith, h.count) in
    record { word = replies r; partly = record { k = k; rest = c.unfed; calls_is = n; stands = h.stands; closes = h.closes }; timed = tt }

-- the same with all of it in the ring
whole_part : {H : Type 0} (V : Voice H) (T : Teller H) (over : Bool) (given sent : List ℕ) (c : Kept) (k : ℕ) (r : Parts)
    → Replying V T over given sent c k r [] → PartOf V T over given sent c c.ring
whole_part {H} V T over given sent c k r h =
    subst (λ (x : List ℕ). PartOf V T over given sent c x) (append-nil c.ring) (replying_part V T over given sent c k r [] h)

handed_part : {H : Type 0} (V : Voice H) (T : Teller H) (over : Bool) (given sent : List ℕ) (c : Kept) → Handed V T over given sent c
    → PartOf V T over given sent c c.ring
handed_part {H} V T over given sent c h =
    let n : c.calls ≡ h.k + 1 = omega (arith, h.count) in
    record {
      word = hands_over h.request h.first;
      partly = record { k = h.k; rest = h.rest; calls_is = n; stands = h.stands; closes = h.closes };
      timed = tt;
    }

refusing_part : {H : Type 0} (V : Voice H) (T : Teller H) (over : Bool) (given sent : List ℕ) (c : Kept) (late : Option Late)
    → Refuses late V T over given sent c → Part V T over given sent c.calls c.ending.closing (is_some late) c.ring
refusing_part {H} V T over given sent c None h =
    let n : c.calls ≡ c.calls + 0 = omega arith in
    record {
      word = refuses h.0;
      partly = record { k = c.calls; rest = h.1; calls_is = n; stands = h.2; closes = closes_none c.ending.closing c.calls ⊥ h.1 h.3 };
      timed = tt;
    }
refusing_part {H} V T over given sent c (Some late) h =
    let n : c.calls ≡ c.calls + 0 = omega arith in
    record {
      word = times_out;
      partly = record { k = c.calls; rest = h.0; calls_is = n; stands = h.1; closes = closes_none c.ending.closing c.calls ⊥ h.0 h.2 };
      timed = refl;
    }

pub live_part : {B H : Type 0} (a : At B H) (V : Voice H) (T : Teller H) (s : Seen) (over : Bool) (given sent : List ℕ) (c : Kept)
    → state_at a ≢ state.Over → HoldsAt a V T s over given sent c → PartOf V T over given sent c (owed_at a c.ring)
live_part {B} {H} at.Reading V T s over given sent c live h = silent_part V T over given sent h.0 c h.3
live_part {B} {H} at.Asked V T s over given sent c live h = silent_part V T over given sent h.0 c h.3
live_part {B} {H} (at.Refused f) V T s over given sent c live h = silent_part V T over given sent h.0 c h.3
live_part {B} {H} (at.Answering f) V T s over given sent c live h = replying_part V T over given sent c h.0 h.1 f.rest.bytes h.4
live_part {B} {H} (at.Writing keeps) V T s over given sent c live h = whole_part V T over given sent c h.0 h.1 h.3
live_part {B} {H} (at.Handing who) V T s over given sent c live h = whole_part V T over given sent c h.0 h.1 h.4
live_part {B} {H} (at.Listening who) V T s over given sent c live h = handed_part V T over given sent c h.handed
live_part {B} {H} (at.Speaking who) V T s over given sent c live h = handed_part V T over given sent c h.handed
live_part {B} {H} at.Parting V T s over given sent c live h = handed_part V T over given sent c h.handed
live_part {B} {H} at.Refusing V T s over given sent c live h = refusing_part V T over given sent c c.ending.late h
live_part {B} {H} (at.Over ended) V T s over given sent c live h = absurd (live refl)

pub live_stands : {B H : Type 0} {g : Ghosts B} (V : Voice H) (S : Stacks H) (s : Seen) (p : Inside B H g) → state_at p.at ≢ state.Over
    → AreLives p.lives.items p.calls → HoldsBy V (tell S p.lives.items p.local p.peer p.ending.closing) s p
    → StandsForTalk s V S p.local p.peer p.lives.items p.calls p.ending.closing (is_some p.ending.late)
live_stands {B} {H} {g} V S s p live lives h =
    let T : Teller H = tell S p.lives.items p.local p.peer p.ending.closing in
    let part : PartOf V T h.over h.given h.sent (kept p) (owed_at p.at p.ring.items) = live_part p.at V T s h.over h.given h.sent (kept p) live h.at in
    record {
      given = h.given;
      sent = h.sent;
      over = h.over;
      word = part.word;
      lacks = owed_at p.at p.ring.items;
      shows = h.shows;
      lives_are = lives;
      partly = part.partly;
      is_timed = part.timed;
    }

some_bytes : (xs : List ℕ) → 0 < length xs → xs ≢ []
some_bytes xs some e = omega (arith, some, ap length e)

-- bytes are owed exactly where something is said
pub owed_says : {B H : Type 0} (a : At B H) (intake : Intake) (unfed ring : List ℕ) (calls : ℕ) (m : Ending) → RestsAt a intake unfed ring calls m → IsSaying a
    → owed_at a ring ≢ []
owed_says {B} {H} at.Reading intake unfed ring calls m h is = absurd is
owed_says {B} {H} at.Asked intake unfed ring calls m h is = absurd is
owed_says {B} {H} (at.Refused f) intake unfed ring calls m h is = absurd is
owed_says {B} {H} (at.Answering f) intake unfed ring calls m h is =
    let some : 0 < length (ring ++ f.rest.bytes) = omega (arith, h.0, length-append ring f.rest.bytes) in
    some_bytes (ring ++ f.rest.bytes) some
owed_says {B} {H} (at.Writing keeps) intake unfed ring calls m h is = some_bytes ring h.0
owed_says {B} {H} (at.Handing who) intake unfed ring calls m h is = some_bytes ring h.0
owed_says {B} {H} at.Refusing intake unfed ring calls m h is = some_bytes ring h
owed_says {B} {H} (at.Listening who) intake unfed ring calls m h is = absurd is
owed_says {B} {H} (at.Speaking who) intake unfed ring calls m h is = some_bytes ring h.1
owed_says {B} {H} at.Parting intake unfed ring calls m h is = some_bytes ring h
owed_says {B} {H} (at.Over ended) intake unfed ring calls m h is = absurd is

pub says_owed : {B H : Type 0} (a : At B H) (intake : Intake) (unfed ring : List ℕ) (calls : ℕ) (m : Ending) → RestsAt a intake unfed ring calls m
    → owed_at a ring ≢ [] → IsSaying a
says_owed {B} {H} at.Reading intake unfed ring calls m h some = absurd (some h.1.0)
says_owed {B} {H} at.Asked intake unfed ring calls m h some = absurd (some h.0)
says_owed {B} {H} (at.Refused f) intake unfed ring calls m h some = absurd (some h.0)
says_owed {B} {H} (at.Answering f) intake unfed ring calls m h some = tt
says_owed {B} {H} (at.Writing keeps) intake unfed ring calls m h some = tt
says_owed {B} {H} (at.Handing who) intake unfed ring calls m h some = tt
says_owed {B} {H} at.Refusing intake unfed ring calls m h some = tt
says_owed {B} {H} (at.Listening who) intake unfed ring calls m h some = absurd (some h.1)
says_owed {B} {H} (at.Speaking who) intake unfed ring calls m h some = tt
says_owed {B} {H} at.Parting intake unfed ring calls m h some = tt
says_owed {B} {H} (at.Over ended) intake unfed ring calls m h some = absurd (some refl)

-- the replies to the next requests, by stacks of which the one of the last life's phase is this one
told_by : {H : Type 0} (S : Stacks H) (lives : List Life) (local : Local) (peer : List ℕ) (closing : Option ℕ) (stack : Stack H) (calls : ℕ)
    → AreLives lives calls → ((ps : Pairs) (input : List ℕ) → S (last_phase lives) ps input ≡ stack ps input) → (k : ℕ) → calls ≤ k
    → TellsBy (tell S lives local peer closing) stack local peer closing k
told_by {H} S lives local peer closing stack calls are same k behind r =
    let ps : Pairs = env_pairs r peer local in
    ap (λ (phase : ℕ). reply_of (S phase) ps r (is_last closing k)) (phase_behind lives calls k behind are)
    ∙ ap (λ (a : Answer Content H). reply (ask_of r) ps a (is_last closing k)) (same ps r.body)

-- one that closes by draining is behind those that were run
drained_agrees : {H : Type 0} (S : Stacks H) (lives : List Life) (local : Local) (peer : List ℕ) (old new : Shown)
    → (new.ending.closing ≡ old.ending.closing) ⊎ DrainsOnce old new
    → AgreesBelow old.calls (tell S lives local peer old.ending.closing) (tell S lives local peer new.ending.closing)
drained_agrees {H} S lives local peer old new e =
    let T : Option ℕ → Teller H = tell S lives local peer in
    elim e [
      | inl same ↦ subst (λ (o : Option ℕ). AgreesBelow old.calls (T old.ending.closing) (T o)) (sym same) (agrees_same (T old.ending.closing) old.calls)
      | inr once ↦
          subst (λ (o : Option ℕ). AgreesBelow old.calls (T o) (T new.ending.closing)) (sym once.2)
          (subst (λ (o : Option ℕ). AgreesBelow old.calls (T None) (T o)) (sym once.3)
          (agrees_less (T None) (T (Some once.0)) old.calls once.0 once.4 (closing_agrees S lives local peer once.0)))
    ]

pub turn_holds : {B H : Type 0} {g : Ghosts B} (V : Voice H) (S : Stacks H) (mid new : Inside B H g) (s s' : Seen) (stack : Stack H)
    → new.peer ≡ mid.peer → new.local ≡ mid.local → new.lives.items ≡ mid.lives.items → Drains (shows mid) (shows new) → mid.calls ≤ new.calls → AreLives mid.lives.items mid.calls
    → ((ps : Pairs) (input : List ℕ) → S (last_phase mid.lives.items) ps input ≡ stack ps input)
    → ((T : Teller H) → TellsFrom T stack mid.local mid.peer new.ending.closing mid.calls new.calls → HoldsBy V T s mid → HoldsBy V T s' new)
    → HoldsBy V (tell S mid.lives.items mid.local mid.peer mid.ending.closing) s mid
    → AreLives new.lives.items new.calls × HoldsBy V (tell S new.lives.items new.local new.peer new.ending.closing) s' new
turn_holds {B} {H} {g} V S mid new s s' stack peer local lives drains later are same step h =
    let closing : Option ℕ = new.ending.closing in
    let T : Teller H = tell S mid.lives.items mid.local mid.peer mid.ending.closing in
    let U : Teller H = tell S mid.lives.items mid.local mid.peer closing in
    let then : HoldsBy V U s' new =
    step U (λ k first end. told_by S mid.lives.items mid.local mid.peer closing stack mid.calls are same k first)
    (retold V T U s mid.peer mid.at (kept mid) (drained_agrees S mid.lives.items mid.local mid.peer (shows mid) (shows new) drains.closing) h) in (
      subst (λ (x : List Life). AreLives x new.calls) (sym lives) (lives_later mid.lives.items mid.calls new.calls later are),
      subst (λ (x : List Life). HoldsBy V (tell S x new.local new.peer closing) s' new) (sym lives)
          (subst (λ (x : Local). HoldsBy V (tell S mid.lives.items x new.peer closing) s' new) (sym local)
          (subst (λ (x : List ℕ). HoldsBy V (tell S mid.lives.items mid.local x closing) s' new) (sym peer) then)),
    )

-- a turn at another moment
pub turn_at : {B H : Type 0} {g : Ghosts B} (V : Voice H) (S : Stacks H) (old same : Inside B H g) (t : Moments) (new : Inside B H g) (s s' : Seen)
    (stack : Stack H) → same ≡ old → new.peer ≡ same.peer → new.local ≡ same.local → new.lives.items ≡ same.lives.items
    → Drains (record (shows same) { moments = t }) (shows new) → same.calls ≤ new.calls → AreLives old.lives.items old.calls
    → ((ps : Pairs) (input : List ℕ) → S (last_phase old.lives.items) ps input ≡ stack ps input)
    → ((T : Teller H) → TellsFrom T stack same.local same.peer new.ending.closing same.calls new.calls → HoldsBy V T s same → HoldsBy V T s' new)
    → HoldsBy V (tell S old.lives.items old.local old.peer old.ending.closing) s old
    → AreLives new.lives.items new.calls × HoldsBy V (tell S new.lives.items new.local new.peer new.ending.closing) s' new
turn_at {B} {H} {g} V S old same t new s s' stack e peer local lives drains later are answers step h =
    turn_holds V S same new s s' stack peer local lives (record { told = drains.told; late = drains.late; dismissed = drains.dismissed; closing = drains.closing })
    later (subst (λ (x : Inside B H g). AreLives x.lives.items x.calls) (sym e) are)
    (subst (λ (x : Inside B H g). (ps : Pairs) (input : List ℕ) → S (last_phase x.lives.items) ps input ≡ stack ps input) (sym e) answers) step
    (subst (λ (x : Inside B H g). HoldsBy V (tell S x.lives.items x.local x.peer x.ending.closing) s x) (sym e) h)

-- it may be ended at any moment
pub ends_any : {B H : Type 0} {g : Ghosts B} (V : Voice H) (T : Teller H) (s : Seen) (p : Inside B H g) (c : Kept) (w : Why) → state_at p.at ≢ state.Over
    → EndsAnyTime w → c.calls ≡ p.calls → c.taken ≡ p.taken → c.ending ≡ p.ending → HoldsBy V T s p → StandsAt {B = B} V T s p.peer (at.Over w) c
ends_any {B} {H} {g} V T s p c w live may n t m h = record {
  given = h.given;
  sent = h.sent;
  over = h.over;
  shows = h.shows;
  counts = t ∙ h.counts;
  at = over_same w V T s h.over h.given h.sent (kept p) c n m (go w may (live_part p.at V T s h.over h.given h.sent (kept p) live h.at));
}
  where
    owed : List ℕ
    owed = owed_at p.at p.ring.items

    go : (why : Why) → EndsAnyTime why → PartOf V T h.over h.given h.sent (kept p) owed
        → EndsPlainly p.ending why V T (past s (kept p) h.given h.sent h.over)
    go why.Closed m part = absurd m
    go why.PeerEnd m part = absurd m
    go (why.Idle by) m part = absurd m
    go (why.TimedOut since moment) m part = absurd m
    go (why.Stalled since moment) m part = absurd m
    go (why.Unread level) m part = absurd m
    go why.ReadFailed m part = absurd m
    go why.WriteFailed m part = absurd m
    go (why.Halted level) m part = (m, (owed, record { word = part.word; untimed = part.timed; partly = part.partly }))
    go why.NoMemory m part = (owed, record { word = part.word; untimed = part.timed; partly = part.partly })
    go why.Hijacked m part = absurd m

-- what holds of a link holds of one that shows the same where it counts
pub touched : {B H : Type 0} (V : Voice H) (T : Teller H) (old new : Seen) (peer : List ℕ) (a : At B H) (c : Kept) → IsTouched old new
    → StandsAt V T old peer a c → StandsAt V T new peer a c
touched {B} {H} V T old new peer a c one h = record {
  given = h.given;
  sent = h.sent;
  over = h.over;
  shows = record {
    peer_is = subst (λ (o : Option (List ℕ)). Tells o peer) (sym one.peer) h.shows.peer_is;
    given_is = subst (λ (o : Option (List ℕ)). Tells o h.given) (sym one.given) h.shows.given_is;
    sent_is = subst (λ (o : Option (List ℕ)). Tells o h.sent) (sym one.sent) h.shows.sent_is;
    over_is = subst (λ (o : Option Bool). Tells o h.over) (sym one.over) h.shows.over_is;
  };
  counts = h.counts;
  at = go a h.at;
}
  where
    ends : (w : Why) → EndsPlainly c.ending w V T (past old c h.given h.sent h.over) → EndsPlainly c.ending w V T (past new c h.given h.sent h.over)
    ends w e =
        subst (λ (n : ℕ). EndsPlainly c.ending w V T (record (past new c h.given h.sent h.over) { failed_writes = n })) (sym one.failed_writes)
        (subst (λ (n : ℕ). EndsPlainly c.ending w V T (record (past old c h.given h.sent h.over) { failed_reads = n })) (sym one.failed_reads) e)

    go : (b : At B H) → HoldsAt b V T old h.over h.given h.sent c → HoldsAt b V T new h.over h.given h.sent c
    go at.Reading x = x
    go at.Asked x = x
    go (at.Refused f) x = x
    go (at.Answering f) x = x
    go (at.Writing keeps) x = x
    go (at.Handing who) x = x
    go at.Refusing x = x
    go (at.Listening who) x = x
    go (at.Speaking who) x = x
    go at.Parting x = x
    go (at.Over w) x = ends w x
