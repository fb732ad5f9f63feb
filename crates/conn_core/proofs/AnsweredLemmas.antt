-- What a connection that stands for its talk over the answers that came says of the requests that were asked, of its end
-- and of what was sent.
use Rattle.std.proofs.Common.{◌≡◌, ◌≢◌, ℕ, ◌+◌, ◌<◌, ◌≤◌, Bool, false, List, [], ◌∷◌, ◌++◌, take, refl, sym, ap, subst, ◌∙◌, arith, Option, Some, ◌⊎◌, inl, inr, ⊎_elim}
use Rattle.std.proofs.lemmas.List.{append-nil}
use Rattle.std.specs.Prelude.{is_some}
use Rattle.rack_types.specs.declared.answer.Answer.{Answer}
use Rattle.rack_types.specs.declared.body.Body.{Ghosts}
use Rattle.rack_types.specs.declared.peer.Local.{Local}
use Rattle.rack_types.specs.Body.{Content}
use Rattle.rack_types.specs.Request.{Parts}
use Rattle.rack_types.specs.Runner.{Asked}
use Rattle.rack_env.specs.Environment.{env_pairs}
use Rattle.rack_outside.specs.Link.{Seen, Tells, Writes}
use Rattle.rack_outside.specs.Told.{appended}
use Rattle.rack_outside.specs.declared.link.LinkWrite.{LinkWrite}
use Rattle.rack_outside.specs.declared.link.LinkWrite.TheVariants as write
use Rattle.reply_framing.specs.declared.types.After.TheVariants.{Hijack}
use Rattle.reply_framing.specs.Hands.{HandsToNobody}
use Rattle.reply_framing.proofs.CallerLemmas.{reply_keeps_hold}
use Rattle.talk_core.specs.declared.ended.Ended.{Ended}
use Rattle.talk_core.specs.declared.ended.Life.{Life}
use Rattle.talk_core.specs.declared.ended.Why.{Why}
use Rattle.talk_core.specs.declared.ended.Why.TheVariants as why
use Rattle.talk_core.specs.Answered.{Answers, tell_by, tell_from, HasAsked, SentUpTo, SentOf, SentSince, KeepsValues, IsEndedAsked}
use Rattle.talk_core.specs.Asked.{IsAsked}
use Rattle.talk_core.specs.Ended.{Past, AreEndedLives, past_of}
use Rattle.talk_core.specs.Lives.{AreLives}
use Rattle.talk_core.specs.Stands.{silent, ClosesAt}
use Rattle.talk_core.specs.Tail.{Voice}
use Rattle.talk_core.specs.Talk.{Asks, wanting, hijacked, replies_to}
use Rattle.talk_core.specs.Teller.{Stack, Teller, ask_of, is_last}
use Rattle.talk_core.proofs.CallerLemmas.{asked_same, from_before, silent_sent, silent_asks, part_asked, whole_asked, part_sent, whole_sent_of, timed_sent, handed_sent, sent_since}
use Rattle.conn_core.specs.declared.conn.Conn.{Conn}
use Rattle.conn_steps.specs.declared.moments.Ending.{Ending}
use Rattle.conn_steps.specs.declared.at.At.{At}
use Rattle.conn_steps.specs.declared.at.At.TheVariants as at
use Rattle.conn_steps.specs.declared.state.Next.{Next}
use Rattle.conn_steps.specs.declared.state.State.TheVariants as state
use Rattle.conn_core.specs.Calls.{Turns}
use Rattle.conn_steps.specs.Holds.{Kept, kept, past, Between, HoldsAt}
use Rattle.conn_core.specs.Holds.{HoldsWith}
use Rattle.conn_steps.specs.Keeps.{reaching}
use Rattle.conn_steps.specs.Moves.{Move, Run, Refusal, Want, Read, Write, Point, MakesMove, Goes, ring_room}
use Rattle.conn_steps.specs.At.{state_at}
use Rattle.conn_steps.specs.Plain.{EndsPlainly, EndsByReplies}
use Rattle.conn_steps.specs.Ran.{Ran, AskedAt}
use Rattle.conn_core.specs.Ran.{HoldsAny}
use Rattle.conn_steps.specs.Shown.{Shown}
use Rattle.conn_core.specs.Shown.{shown, link_of}
use Rattle.conn_steps.proofs.CallerLemmas.{Part, live_part}
use Rattle.conn_core.proofs.PartsOfCalls.{appended_more}
use Rattle.conn_steps.proofs.CallerLemmas.{appended_nil}

-- at any place it stands in part, or it ended
place_cases : {B H : Type 0} (V : Voice H) (T : Teller H) (s : Seen) (over : Bool) (given sent : List ℕ) (c : Kept) (a : At B H)
    → HoldsAt a V T s over given sent c
    → ((owed : List ℕ) × Part V T over given sent c.calls c.ending.closing (is_some c.ending.late) owed)
    ⊎ ((w : Why) × EndsPlainly c.ending w V T (past s c given sent over))
place_cases {B} {H} V T s over given sent c at.Reading h = inl (_, live_part {B = B} at.Reading V T s over given sent c (λ e. cc) h)
place_cases {B} {H} V T s over given sent c at.Asked h = inl (_, live_part {B = B} at.Asked V T s over given sent c (λ e. cc) h)
place_cases {B} {H} V T s over given sent c (at.Refused f) h = inl (_, live_part {B = B} (at.Refused f) V T s over given sent c (λ e. cc) h)
place_cases {B} {H} V T s over given sent c (at.Answering f) h = inl (_, live_part {B = B} {H = H} (at.Answering f) V T s over given sent c (λ e. cc) h)
place_cases {B} {H} V T s over given sent c (at.Writing keeps) h = inl (_, live_part {B = B} (at.Writing keeps) V T s over given sent c (λ e. cc) h)
place_cases {B} {H} V T s over given sent c (at.Handing x) h = inl (_, live_part {B = B} (at.Handing x) V T s over given sent c (λ e. cc) h)
place_cases {B} {H} V T s over given sent c at.Refusing h = inl (_, live_part {B = B} at.Refusing V T s over given sent c (λ e. cc) h)
place_cases {B} {H} V T s over given sent c (at.Listening x) h = inl (_, live_part {B = B} (at.Listening x) V T s over given sent c (λ e. cc) h)
place_cases {B} {H} V T s over given sent c (at.Speaking x) h = inl (_, live_part {B = B} (at.Speaking x) V T s over given sent c (λ e. cc) h)
place_cases {B} {H} V T s over given sent c at.Parting h = inl (_, live_part {B = B} at.Parting V T s over given sent c (λ e. cc) h)
place_cases {B} {H} V T s over given sent c (at.Over w) h = inr (w, h)

-- what was sent by one that ended
ends_sent : {H : Type 0} (e : Ending) (w : Why) (V : Voice H) (T : Teller H) (p : Past) → EndsPlainly e w V T p → SentOf V T p.over p.given p.sent p.calls
ends_sent {H} e why.Closed V T p h = whole_sent_of V T p h.0 h.1 p.sent h.3 refl
ends_sent {H} e why.PeerEnd V T p h = whole_sent_of V T p wanting h.0 p.sent h.1 refl
ends_sent {H} e (why.Idle by) V T p h = whole_sent_of V T p wanting h.0 p.sent h.1 refl
ends_sent {H} e (why.TimedOut since moment) V T p h = timed_sent V T p h.0 h.1 h.2 h.3 h.4
ends_sent {H} e (why.Stalled since moment) V T p h = part_sent V T p.over p.given p.sent p.calls p.closing h.1.word h.0 h.1.partly
ends_sent {H} e (why.Unread level) V T p h = record {
  requests = [];
  rest = [];
  asks = h.0;
  count = h.2;
  sends = record { whole = []; word = silent; requests_are = refl; part = []; sent_is = h.1; part_is = ([], refl); fits = tt };
}
ends_sent {H} e why.ReadFailed V T p h =
    ⊎_elim (λ x. whole_sent_of V T p x.0 x.1 p.sent x.3 refl)
    (λ x. part_sent V T p.over p.given p.sent p.calls p.closing x.word x.lacks x.partly) h.1
ends_sent {H} e why.WriteFailed V T p h = part_sent V T p.over p.given p.sent p.calls p.closing h.1.1.word h.1.0 h.1.1.partly
ends_sent {H} e (why.Halted level) V T p h = part_sent V T p.over p.given p.sent p.calls p.closing h.1.1.word h.1.0 h.1.1.partly
ends_sent {H} e why.NoMemory V T p h = part_sent V T p.over p.given p.sent p.calls p.closing h.1.word h.0 h.1.partly
ends_sent {H} e why.Hijacked V T p h = handed_sent V T p h.h h.rest h.said h.whole h.sent

-- what it was asked, where no answer handed it over
ends_asked : {H : Type 0} (e : Ending) (w : Why) (V : Voice H) (answers : Answers H) (local : Local) (peer : List ℕ) (p : Past)
    → ((k : ℕ) → k < p.calls → (r : Parts) → (tell_by answers local peer p.closing k r).after ≢ Hijack)
    → EndsPlainly e w V (tell_by answers local peer p.closing) p → (asked : List Parts) × (rest : List ℕ) × IsAsked p.closing p.given p.calls asked rest
ends_asked {H} e why.Closed V answers local peer p none h =
    let x = whole_asked answers local peer p.closing p h.0 h.1 p.sent refl none h.3 in (x.0, h.1, x.1)
ends_asked {H} e why.PeerEnd V answers local peer p none h =
    let x = whole_asked answers local peer p.closing p wanting h.0 p.sent refl none h.1 in (x.0, h.0, x.1)
ends_asked {H} e (why.Idle by) V answers local peer p none h =
    let x = whole_asked answers local peer p.closing p wanting h.0 p.sent refl none h.1 in (x.0, h.0, x.1)
ends_asked {H} e (why.TimedOut since moment) V answers local peer p none h =
    let x = whole_asked answers local peer p.closing p wanting h.0 h.1 refl none h.2 in (x.0, h.0, x.1)
ends_asked {H} e (why.Stalled since moment) V answers local peer p none h =
    part_asked answers local peer p.closing V p.over p.given p.sent p.calls h.1.word h.0 none h.1.partly
ends_asked {H} e (why.Unread level) V answers local peer p none h = (
  [],
  [],
  record { asks = h.0; calls_is = h.2; goes_on = tt; closes = subst (λ (o : Option ℕ). ClosesAt o p.calls ⊥ []) (sym h.3) tt },
)
ends_asked {H} e why.ReadFailed V answers local peer p none h =
    ⊎_elim (λ y. let x = whole_asked answers local peer p.closing p y.0 y.1 p.sent refl none y.3 in (x.0, y.1, x.1))
    (λ y. part_asked answers local peer p.closing V p.over p.given p.sent p.calls y.word y.lacks none y.partly) h.1
ends_asked {H} e why.WriteFailed V answers local peer p none h =
    part_asked answers local peer p.closing V p.over p.given p.sent p.calls h.1.1.word h.1.0 none h.1.1.partly
ends_asked {H} e (why.Halted level) V answers local peer p none h =
    part_asked answers local peer p.closing V p.over p.given p.sent p.calls h.1.1.word h.1.0 none h.1.1.partly
ends_asked {H} e why.NoMemory V answers local peer p none h =
    part_asked answers local peer p.closing V p.over p.given p.sent p.calls h.1.word h.0 none h.1.partly
ends_asked {H} e why.Hijacked V answers local peer p none h =
    let x = whole_asked answers local peer p.closing p hijacked h.rest h.said refl none h.whole.whole in (x.0, h.rest, x.1)

ends_keeps : {H : Type 0} (e : Ending) (w : Why) (V : Voice H) (T : Teller H) (p : Past) → EndsPlainly e w V T p → KeepsValues w p
ends_keeps {H} e why.Closed V T p h = tt
ends_keeps {H} e why.PeerEnd V T p h = h.2
ends_keeps {H} e (why.Idle by) V T p h = h.3
ends_keeps {H} e (why.TimedOut since moment) V T p h = h.5
ends_keeps {H} e (why.Stalled since moment) V T p h = h.3
ends_keeps {H} e (why.Unread level) V T p h = h.4
ends_keeps {H} e why.ReadFailed V T p h = h.0
ends_keeps {H} e why.WriteFailed V T p h = h.0
ends_keeps {H} e (why.Halted level) V T p h = h.0
ends_keeps {H} e why.NoMemory V T p h = tt
ends_keeps {H} e why.Hijacked V T p h = tt

-- an answer that hands nothing over is answered by no hijack
hands_none : {H : Type 0} (answers : Answers H) (local : Local) (peer : List ℕ) (closing : Option ℕ) (calls : ℕ)
    → ((k : ℕ) → k < calls → HandsToNobody (answers k)) → (k : ℕ) → k < calls → (r : Parts) → (tell_by answers local peer closing k r).after ≢ Hijack
hands_none {H} answers local peer closing calls nobody k lt r =
    reply_keeps_hold (ask_of r) (env_pairs r peer local) (answers k) (is_last closing k) (nobody k lt)

module _ {L B H : Type 0} {g : Ghosts B} (seen : L → Seen) (V : Voice H) (IsFit : Answer Content H → Type 0) (nobody : (a : Answer Content H) → IsFit a → HandsToNobody a) where
  -- counted by what they say themselves, and, where a reply closed by draining, that is the last one's, and no byte
  -- stands behind it
  pub any_asked : (c : Conn L B H g) → HoldsAny seen V IsFit c → AskedAt (seen (link_of c)) (shown c)
  any_asked c h =
      let o = shown c in
      let p = c.inside.value in
      let T : Teller H = tell_by h.answers o.local o.peer o.ending.closing in
      let i = h.stands in
      let none : (k : ℕ) → k < o.calls → (r : Parts) → (T k r).after ≢ Hijack =
      hands_none h.answers o.local o.peer o.ending.closing o.calls (λ k lt. nobody (h.answers k) (h.fit k lt)) in
      let x = ⊎_elim
      (λ l. part_asked h.answers o.local o.peer o.ending.closing V i.over i.given i.sent o.calls l.1.word l.0 none l.1.partly)
      (λ e. ends_asked p.ending e.0 V h.answers o.local o.peer (past (seen c.link) (kept p) i.given i.sent i.over) none e.1)
      (place_cases V T (seen c.link) i.over i.given i.sent (kept p) p.at i.at) in
      record { given = i.given; tells = i.shows.given_is; asked = x.0; rest = x.1; asks = x.2 }

  -- its end, by the lives and the end over any replies that `finish` tells
  pub any_finished : (c : Conn L B H g) (e : Ended L) → e.calls ≡ (shown c).calls → e.lives.items ≡ (shown c).lives → e.closing ≡ (shown c).ending.closing
      → HoldsAny seen V IsFit c → ((T : Teller H) → HoldsWith seen V T c → EndsByReplies L seen V T (shown c).peer (shown c).ending e)
      → IsEndedAsked L seen (shown c).peer e
  any_finished c e calls lives closing h ends =
      let o = shown c in
      let a = h.answers in
      let T : Teller H = tell_by a o.local o.peer o.ending.closing in
      let U : Teller H = tell_by a o.local o.peer e.closing in
      let is : T ≡ U = ap (λ (x : Option ℕ). tell_by a o.local o.peer x) (sym closing) in
      let x : EndsByReplies L seen V U o.peer o.ending e = subst (λ (W : Teller H). EndsByReplies L seen V W o.peer o.ending e) is (ends T h.stands) in
      let p : Past = past_of (seen e.link) e x.given x.sent x.over in
      let none : (k : ℕ) → k < e.calls → (r : Parts) → (U k r).after ≢ Hijack =
      hands_none a o.local o.peer e.closing e.calls (λ k lt. nobody (a k) (h.fit k (omega (arith, lt, calls)))) in
      let asks = ends_asked o.ending e.why V a o.local o.peer p none x.ends in
      record {
        given = x.given;
        sent = x.sent;
        over = x.over;
        shows = x.shows;
        asked = asks.0;
        rest = asks.1;
        asks = asks.2;
        lives = go e.lives.items p (subst (λ (x : List Life). AreLives x e.calls) (sym lives) (subst (λ (k : ℕ). AreLives o.lives k) (sym calls) h.lives_are));
        keeps = ends_keeps o.ending e.why V U p x.ends;
      }
    where
      go : (ls : List Life) (p : Past) → AreLives ls p.calls → AreEndedLives ls e.why p
      go [] p are = absurd are
      go (life ∷ ls) p are = are

tells_same : (told : Option (List ℕ)) (xs ys : List ℕ) → told ≡ Some xs → Tells told ys → xs ≡ ys
tells_same told xs ys e t = subst (λ (o : Option (List ℕ)). Tells o ys) e t

-- over a link that tells what it gave they are those that were asked one by one
pub asked_are : (s : Seen) (c : Shown) (given : List ℕ) (requests : List Parts) → s.given ≡ Some given → HasAsked s c.calls requests → (a : AskedAt s c)
    → a.asked ≡ requests
asked_are s c given requests told h a =
    let here : given ≡ a.given = tells_same s.given given a.given told a.tells in
    let there : given ≡ h.given = tells_same s.given given h.given told h.tells in
    (asked_same a.asked requests a.given a.rest h.rest a.asks.asks (subst (λ (b : List ℕ). Asks b requests h.rest) (sym there ∙ here) h.asks)
    (sym a.asks.calls_is ∙ h.count)).0

-- what a link took in some moves stands behind what it took before
goes_sent : (now : ℕ) (moves : List Move) (m n : Point) → Goes now moves m n → (more : List ℕ) × (n.seen.sent ≡ appended m.seen.sent more)
goes_sent now [] m n h = ([], ap (λ (x : Point). x.seen.sent) h ∙ sym (appended_nil m.seen.sent))
goes_sent now (move ∷ moves) m n h =
    let rest = goes_sent now moves h.0 n h.3 in
    let one = moved move h.1.0 in
    (one.0 ++ rest.0, rest.1 ∙ ap (λ (o : Option (List ℕ)). appended o rest.0) one.1 ∙ appended_more m.seen.sent one.0 rest.0)
  where
    none : h.0.seen ≡ m.seen → (more : List ℕ) × (h.0.seen.sent ≡ appended m.seen.sent more)
    none e = ([], ap (λ (x : Seen). x.sent) e ∙ sym (appended_nil m.seen.sent))

    wrote : (answer : LinkWrite) → Writes answer (take ring_room m.shown.owed) m.seen h.0.seen → (more : List ℕ) × (h.0.seen.sent ≡ appended m.seen.sent more)
    wrote (write.Took n) w = (take n (take ring_room m.shown.owed), w.2)
    wrote write.NotYet w = ([], w.0 ∙ sym (appended_nil m.seen.sent))
    wrote write.Failed w = ([], w.0 ∙ sym (appended_nil m.seen.sent))
    wrote write.NoMemory w = ([], w ∙ sym (appended_nil m.seen.sent))

    moved : (x : Move) → MakesMove x m h.0 → (more : List ℕ) × (h.0.seen.sent ≡ appended m.seen.sent more)
    moved Run k = none k.4
    moved (Refusal fault) k = none k.4
    moved Want k = none k.2
    moved (Read answer) k = ([], k.3.one.sent ∙ sym (appended_nil m.seen.sent))
    moved (Write answer) k = wrote answer k.3.offers

-- where a request or a refusal stands, all replies were sent whole
ready_sent : {B H : Type 0} (V : Voice H) (T : Teller H) (s : Seen) (over : Bool) (given sent : List ℕ) (c : Kept) (a : At B H)
    → Tells s.given given → Tells s.sent sent → state_at a ≡ state.Ready → HoldsAt a V T s over given sent c → SentUpTo T s c.calls
ready_sent {B} {H} V T s over given sent c a tells_given tells_sent ready h = go a ready h
  where
    by : (now : List ℕ) → Between V T over given sent c now → SentUpTo T s c.calls
    by now b = record {
      given = given;
      sent = sent;
      tells_given = tells_given;
      tells_sent = tells_sent;
      requests = b.stands.whole;
      rest = now ++ c.unfed;
      asks = silent_asks V T over given sent (now ++ c.unfed) c.calls b.stands;
      count = b.stands.count;
      keeps = b.stands.keeps;
      sent_is = silent_sent V T over given sent (now ++ c.unfed) c.calls b.stands;
    }

    go : (x : At B H) → state_at x ≡ state.Ready → HoldsAt x V T s over given sent c → SentUpTo T s c.calls
    go at.Reading e k = cc
    go at.Asked e k = by k.0 k.3
    go (at.Refused f) e k = by k.0 k.3
    go (at.Answering f) e k = cc
    go (at.Writing keeps) e k = cc
    go (at.Handing x) e k = cc
    go at.Refusing e k = cc
    go (at.Listening x) e k = cc
    go (at.Speaking x) e k = cc
    go at.Parting e k = cc
    go (at.Over w) e k = cc

-- what was sent in a turn over a link that tells what it gave and took: a front of the replies by the answers that the
-- runner gave, in which all but the last are whole, and behind a refusal a front of the reply that names it
pub turn_sent : {R L B H : Type 0} {g : Ghosts B} (seen : L → Seen) (V : Voice H) (c d : Conn L B H g) (now : ℕ) (result : Next) (T : Teller H) (answer : R → Stack H)
    (answered answered' : Option (List (Answer Content H))) (asked asked' : Option (List (Asked × Bool))) → (shown c).state ≡ state.Ready
    → Turns now result (reaching now (shown c)) (shown d) (seen (link_of c)) (seen (link_of d)) → HoldsWith seen V T c
    → (r : Ran (λ (U : Teller H). HoldsWith seen V U d) T answer (shown c).calls (seen (link_of c)) (seen (link_of d)) (shown d) answered answered' asked asked')
    → (given sent : List ℕ) → (seen (link_of c)).given ≡ Some given → (seen (link_of c)).sent ≡ Some sent
    → (came more : List ℕ) × ((seen (link_of d)).given ≡ Some (given ++ came)) × ((seen (link_of d)).sent ≡ Some (sent ++ more))
    × ((over : Bool) × SentSince V (tell_from T (shown c).calls r.answers (shown d).local (shown d).peer (shown d).ending.closing) over (given ++ came) sent (sent ++ more)
    (shown c).calls ((shown c).calls + r.good))
turn_sent {R} {L} {B} {H} {g} seen V c d now result T answer answered answered' asked asked' ready t h r given sent gives takes =
    (came, m.0, given_is, sent_is, ⊎_elim all less r.good_is)
  where
    o : Shown
    o = shown c

    n : Shown
    n = shown d

    first : ℕ
    first = o.calls

    U : Teller H
    U = tell_from T first r.answers n.local n.peer n.ending.closing

    came : List ℕ
    came = t.moved.came

    m : (more : List ℕ) × ((seen (link_of d)).sent ≡ appended (seen (link_of c)).sent more)
    m = goes_sent now t.moves _ _ t.made

    given_is : (seen (link_of d)).given ≡ Some (given ++ came)
    given_is = t.moved.given ∙ ap (λ (x : Option (List ℕ)). appended x came) gives

    sent_is : (seen (link_of d)).sent ≡ Some (sent ++ m.0)
    sent_is = m.1 ∙ ap (λ (x : Option (List ℕ)). appended x m.0) takes

    start : SentUpTo T (seen c.link) first
    start = ready_sent V T (seen c.link) h.over h.given h.sent (kept c.inside.value) c.inside.value.at h.shows.given_is h.shows.sent_is ready h.at

    since : (over : Bool) (calls : ℕ) → first ≤ calls → SentOf V U over (given ++ came) (sent ++ m.0) calls
        → SentSince V U over (given ++ came) sent (sent ++ m.0) first calls
    since over calls few x =
        let as_given : given ≡ start.given = tells_same (seen c.link).given given start.given gives start.tells_given in
        let as_sent : sent ≡ start.sent = tells_same (seen c.link).sent sent start.sent takes start.tells_sent in
        sent_since V T U over given came sent m.0 first calls start.requests start.rest
        (subst (λ (b : List ℕ). Asks b start.requests start.rest) (sym as_given) start.asks) start.count start.keeps (as_sent ∙ start.sent_is)
        (from_before T first r.answers n.local n.peer n.ending.closing) few x

    told : (x y : List ℕ) (over : Bool) (calls : ℕ) → Tells (seen d.link).given x → Tells (seen d.link).sent y → SentOf V U over x y calls
        → SentOf V U over (given ++ came) (sent ++ m.0) calls
    told x y over calls p q z =
        subst (λ (b : List ℕ). SentOf V U over b (sent ++ m.0) calls) (sym (tells_same (seen d.link).given (given ++ came) x given_is p))
        (subst (λ (b : List ℕ). SentOf V U over x b calls) (sym (tells_same (seen d.link).sent (sent ++ m.0) y sent_is q)) z)

    all : first + r.good ≡ n.calls → (over : Bool) × SentSince V U over (given ++ came) sent (sent ++ m.0) first (first + r.good)
    all e =
        let i = r.stands in
        let p = d.inside.value in
        let few : first ≤ n.calls = omega (arith, e) in
        let x : SentOf V U i.over i.given i.sent n.calls = ⊎_elim
        (λ l. part_sent V U i.over i.given i.sent n.calls n.ending.closing l.1.word l.0 l.1.partly)
        (λ y. ends_sent p.ending y.0 V U (past (seen d.link) (kept p) i.given i.sent i.over) y.1)
        (place_cases V U (seen d.link) i.over i.given i.sent (kept p) p.at i.at) in (
          i.over,
          subst (λ (k : ℕ). SentSince V U i.over (given ++ came) sent (sent ++ m.0) first k) (sym e)
              (since i.over n.calls few (told i.given i.sent i.over n.calls i.shows.given_is i.shows.sent_is x)),
        )

    less : (first + r.good + 1 ≡ n.calls) × (n.why ≡ Some why.NoMemory)
        → (over : Bool) × SentSince V U over (given ++ came) sent (sent ++ m.0) first (first + r.good)
    less e =
        let u = r.unsaid (omega (arith, e.0)) in
        let x : SentOf V U false u.given u.sent (first + r.good) = record {
          requests = u.requests;
          rest = u.rest;
          asks = u.asks;
          count = u.count;
          sends = record {
            whole = u.requests;
            word = silent;
            requests_are = sym (append-nil u.requests);
            part = [];
            sent_is = u.sent_is ∙ sym (append-nil (replies_to U 0 u.requests));
            part_is = ([], refl);
            fits = tt;
          };
        } in
        let few : first ≤ first + r.good = omega arith in
        (false, since false (first + r.good) few (told u.given u.sent false (first + r.good) u.tells_given u.tells_sent x))
