-- What stands once a hijacker was told something.
use Rattle.std.proofs.Common.{◌≡◌, ℕ, suc, ◌+◌, Bool, true, false, if◌then◌else◌, List, [], ◌++◌, refl, sym, ap, subst, ◌∙◌, append_assoc, arith, Some, inr, ◌-◌, ◌^◌, min, length}
use Rattle.std.specs.Prelude.{⊤}
use Rattle.std.proofs.lemmas.List.{append-nil}
use Rattle.hijack_core.specs.declared.hijack.Said.{Said}
use Rattle.hijack_core.specs.Said.{GoesOnAs}
use Rattle.rack_types.specs.Request.{Parts}
use Rattle.rack_outside.specs.Link.{Seen, IsOneRead, marked}
use Rattle.rack_outside.specs.Told.{Rose, appended}
use Rattle.rack_outside.proofs.CallerLemmas.{rose_some}
use Rattle.message_framing.specs.declared.intake.Intake.{Intake}
use Rattle.reply_framing.specs.declared.types.After.TheVariants.{Hijack}
use Rattle.talk_core.specs.declared.ended.Why.TheVariants as why
use Rattle.talk_core.specs.Ended.{NeedsDrain}
use Rattle.talk_core.specs.Stands.{Stands, ClosesAt, replies, hands_over}
use Rattle.talk_core.specs.Tail.{Voice, tail_of, goes_on}
use Rattle.talk_core.specs.Teller.{Teller}
use Rattle.talk_core.proofs.CallerLemmas.{taken_more, stands_handed, stands_heard, stands_over, tail_so_far, whole_handed, shows_given, shows_unread, shows_over, closes_for}
use Rattle.conn_steps.specs.declared.moments.Ending.{Ending}
use Rattle.conn_steps.specs.declared.at.At.{At}
use Rattle.conn_steps.specs.declared.at.At.TheVariants as at
use Rattle.conn_steps.specs.Holds.{Kept, past, Handed, Hears, HoldsAt, StandsAt}
use Rattle.conn_steps.specs.At.{IsHearing}
use Rattle.conn_steps.specs.Plain.{EndsPlainly}
use Rattle.conn_steps.specs.Rests.{RestsAt}
use Rattle.conn_steps.specs.Steps.{Tells, TellsEnd, HandsOn, EndsOn}
use Rattle.conn_steps.proofs.AtLemmas.{kept_same, over_same, closes_taken}

-- the parts behind what a hijacker was told
abbrev pub with_told : Kept → List ℕ → List ℕ → Kept
with_told c ring left = record c { unfed = left; ring = ring }

-- the same with another count of the bytes that were read
abbrev pub with_count : Kept → ℕ → Kept
with_count c taken = record c { taken = taken }

-- a hijacker that doesn't go on is at its end, whether the peer ended or not
stops_on : (over go : Bool) → go ≡ false → (if over then false else go) ≡ false
stops_on true go e = refl
stops_on false go e = e

-- one that isn't to be asked again needs no drain
no_drain : (goes : Bool) (level : ℕ) → goes ≡ false → NeedsDrain goes level
no_drain true level e = cc
no_drain false level e = tt

-- nor was it told to leave
no_leave : (goes left : Bool) → goes ≡ false → goes ≡ true → left ≡ true
no_leave true left e f = cc
no_leave false left e f = cc

-- behind some bytes, and then behind more
pub goes_then : {H : Type 0} (V : Voice H) (h now later : H) (bytes piece : List ℕ) → GoesOnAs (V.says h) (V.ends h) bytes (V.says now) (V.ends now)
    → GoesOnAs (V.says now) (V.ends now) piece (V.says later) (V.ends later)
    → GoesOnAs (V.says h) (V.ends h) (bytes ++ piece) (V.says later) (V.ends later)
goes_then {H} V h now later bytes piece first second = record {
  joined = λ more.
      ap (V.says h) (append_assoc bytes piece more) ∙ first.joined (piece ++ more)
      ∙ ap (λ (s : Said). record { bytes = (V.says h bytes).bytes ++ s.bytes; go_on = s.go_on }) (second.joined more)
      ∙ ap (λ (xs : List ℕ). record { bytes = xs; go_on = (V.says later more).go_on })
      (sym (append_assoc (V.says h bytes).bytes (V.says now piece).bytes (V.says later more).bytes))
      ∙ ap (λ (s : Said). record { bytes = s.bytes ++ (V.says later more).bytes; go_on = (V.says later more).go_on }) (sym (first.joined piece));
  ended = λ more. ap (V.ends h) (append_assoc bytes piece more) ∙ first.ended (piece ++ more) ∙ second.ended more;
}

-- whether it goes on behind them is told by the last that were said
pub goes_as : {H : Type 0} (V : Voice H) (h now : H) (bytes piece : List ℕ) → GoesOnAs (V.says h) (V.ends h) bytes (V.says now) (V.ends now)
    → (V.says h (bytes ++ piece)).go_on ≡ (V.says now piece).go_on
goes_as {H} V h now bytes piece first = ap (λ (s : Said). s.go_on) (first.joined piece)

module _ {H : Type 0} (V : Voice H) (T : Teller H) (s : Seen) (over : Bool) (given sent : List ℕ) (c : Kept) (k : ℕ) (r : Parts) (first : H)
    (rest : List ℕ) (count : c.calls ≡ suc k) (closes : ClosesAt c.ending.closing c.calls ⊤ rest) where
  abbrev handed : (ring left : List ℕ) → Stands V T over given sent k (hands_over r first) rest ring → Handed V T over given sent (with_told c ring left)
  handed ring left stands = record { k = k; request = r; first = first; rest = rest; count = count; closes = closes; stands = stands }

  -- it said its last, and all of it was sent
  pub parted : Stands V T over given sent k (hands_over r first) rest [] → NeedsDrain (goes_on V first rest over) c.ending.told
      → (goes_on V first rest over ≡ true → c.ending.dismissed ≡ true) → EndsPlainly c.ending why.Hijacked V T (past s c given sent over)
  parted stands ends leaves =
      let x = whole_handed V T (past s c given sent over) rest r first k stands count closes in
      record { h = first; rest = rest; said = x.0; whole = x.1; sent = x.2; drain = ends; leaves = leaves }

  -- what is lacking of it, with want of memory
  pub unspoken : (lacks : List ℕ) → Stands V T over given sent k (hands_over r first) rest lacks
      → EndsPlainly c.ending why.NoMemory V T (past s c given sent over)
  unspoken lacks stands =
      let n : c.calls ≡ k + 1 = omega (arith, count) in
      (lacks, record { word = hands_over r first; untimed = tt; partly = record { k = k; rest = rest; calls_is = n; stands = stands; closes = closes } })

module _ {B H : Type 0} (V : Voice H) (T : Teller H) (s : Seen) (over : Bool) (given sent : List ℕ) (c : Kept) (k : ℕ) (r : Parts) (first : H)
    (rest : List ℕ) (count : c.calls ≡ suc k) (closes : ClosesAt c.ending.closing c.calls ⊤ rest) where
  -- a hijacker, which is what the first one is behind what it was told, was told this piece, and that is all
  pub told_at : (now : H) (piece ring left : List ℕ) (b : At B H) → Tells V now piece b ring left → over ≡ false
      → (V.says first rest).go_on ≡ (V.says now piece).go_on
      → ((later : H) → GoesOnAs (V.says now) (V.ends now) piece (V.says later) (V.ends later)
      → GoesOnAs (V.says first) (V.ends first) rest (V.says later) (V.ends later))
      → Stands V T over given sent k (hands_over r first) rest (V.says now piece).bytes
      → HoldsAt b V T s over given sent (with_told c ring left)
  told_at now piece ring left at.Reading e live same behind stands = absurd e
  told_at now piece ring left at.Asked e live same behind stands = absurd e
  told_at now piece ring left (at.Refused f) e live same behind stands = absurd e
  told_at now piece ring left (at.Answering f) e live same behind stands = absurd e
  told_at now piece ring left (at.Writing keeps) e live same behind stands = absurd e
  told_at now piece ring left (at.Handing h) e live same behind stands = absurd e
  told_at now piece ring left at.Refusing e live same behind stands = absurd e
  told_at now piece ring left (at.Listening later) e live same behind stands = record {
    handed = handed V T s over given sent c k r first rest count closes ring left (subst (λ (x : List ℕ). Stands V T over given sent k (hands_over r first) rest x) (sym e.0.ring_is) stands);
    live = live;
    goes = same ∙ e.0.goes;
    behind = behind later e.0.behind;
  }
  told_at now piece ring left (at.Speaking later) e live same behind stands = record {
    handed = handed V T s over given sent c k r first rest count closes ring left (subst (λ (x : List ℕ). Stands V T over given sent k (hands_over r first) rest x) (sym e.0.ring_is) stands);
    live = live;
    goes = same ∙ e.0.goes;
    behind = behind later e.0.behind;
  }
  told_at now piece ring left at.Parting e live same behind stands = record {
    handed = handed V T s over given sent c k r first rest count closes ring left (subst (λ (x : List ℕ). Stands V T over given sent k (hands_over r first) rest x) (sym e.0.ring_is) stands);
    ended = no_drain (goes_on V first rest over) c.ending.told (stops_on over (V.says first rest).go_on (same ∙ e.0.stops));
    leaves = no_leave (goes_on V first rest over) c.ending.dismissed (stops_on over (V.says first rest).go_on (same ∙ e.0.stops));
  }
  told_at now piece ring left (at.Over why.Closed) e live same behind stands = absurd e
  told_at now piece ring left (at.Over why.PeerEnd) e live same behind stands = absurd e
  told_at now piece ring left (at.Over (why.Idle by)) e live same behind stands = absurd e
  told_at now piece ring left (at.Over (why.TimedOut since moment)) e live same behind stands = absurd e
  told_at now piece ring left (at.Over (why.Stalled since moment)) e live same behind stands = absurd e
  told_at now piece ring left (at.Over (why.Unread level)) e live same behind stands = absurd e
  told_at now piece ring left (at.Over why.ReadFailed) e live same behind stands = absurd e
  told_at now piece ring left (at.Over why.WriteFailed) e live same behind stands = absurd e
  told_at now piece ring left (at.Over (why.Halted level)) e live same behind stands = absurd e
  told_at now piece ring left (at.Over why.NoMemory) e live same behind stands = unspoken V T s over given sent c k r first rest count closes (V.says now piece).bytes stands
  told_at now piece ring left (at.Over why.Hijacked) e live same behind stands =
      parted V T s over given sent c k r first rest count closes (subst (λ (x : List ℕ). Stands V T over given sent k (hands_over r first) rest x) (sym e.0.ring_is) stands)
      (no_drain (goes_on V first rest over) c.ending.told (stops_on over (V.says first rest).go_on (same ∙ e.0.stops)))
      (no_leave (goes_on V first rest over) c.ending.dismissed (stops_on over (V.says first rest).go_on (same ∙ e.0.stops)))

  -- it was told the peer's end
  pub told_end : (now : H) (ring left : List ℕ) (b : At B H) → TellsEnd V now b ring → over ≡ true
      → Stands V T over given sent k (hands_over r first) rest (V.ends now []) → HoldsAt b V T s over given sent (with_told c ring left)
  told_end now ring left at.Reading e ended stands = absurd e
  told_end now ring left at.Asked e ended stands = absurd e
  told_end now ring left (at.Refused f) e ended stands = absurd e
  told_end now ring left (at.Answering f) e ended stands = absurd e
  told_end now ring left (at.Writing keeps) e ended stands = absurd e
  told_end now ring left (at.Handing h) e ended stands = absurd e
  told_end now ring left at.Refusing e ended stands = absurd e
  told_end now ring left (at.Listening h) e ended stands = absurd e
  told_end now ring left (at.Speaking h) e ended stands = absurd e
  told_end now ring left at.Parting e ended stands = record {
    handed = handed V T s over given sent c k r first rest count closes ring left (subst (λ (x : List ℕ). Stands V T over given sent k (hands_over r first) rest x) (sym e.0) stands);
    ended = no_drain (goes_on V first rest over) c.ending.told (ap (λ (o : Bool). if o then false else (V.says first rest).go_on) ended);
    leaves = no_leave (goes_on V first rest over) c.ending.dismissed (ap (λ (o : Bool). if o then false else (V.says first rest).go_on) ended);
  }
  told_end now ring left (at.Over why.Closed) e ended stands = absurd e
  told_end now ring left (at.Over why.PeerEnd) e ended stands = absurd e
  told_end now ring left (at.Over (why.Idle by)) e ended stands = absurd e
  told_end now ring left (at.Over (why.TimedOut since moment)) e ended stands = absurd e
  told_end now ring left (at.Over (why.Stalled since moment)) e ended stands = absurd e
  told_end now ring left (at.Over (why.Unread level)) e ended stands = absurd e
  told_end now ring left (at.Over why.ReadFailed) e ended stands = absurd e
  told_end now ring left (at.Over why.WriteFailed) e ended stands = absurd e
  told_end now ring left (at.Over (why.Halted level)) e ended stands = absurd e
  told_end now ring left (at.Over why.NoMemory) e ended stands = unspoken V T s over given sent c k r first rest count closes (V.ends now []) stands
  told_end now ring left (at.Over why.Hijacked) e ended stands =
      parted V T s over given sent c k r first rest count closes (subst (λ (x : List ℕ). Stands V T over given sent k (hands_over r first) rest x) e.0 stands)
      (no_drain (goes_on V first rest over) c.ending.told (ap (λ (o : Bool). if o then false else (V.says first rest).go_on) ended))
      (no_leave (goes_on V first rest over) c.ending.dismissed (ap (λ (o : Bool). if o then false else (V.says first rest).go_on) ended))

-- a reply was sent whole, and its hijacker was told the unfed bytes
pub hands_at : {B H : Type 0} (V : Voice H) (T : Teller H) (s : Seen) (over : Bool) (given sent : List ℕ) (c : Kept) (h : H) (ring left : List ℕ) (b : At B H)
    → Tells V h c.unfed b ring left → (k : ℕ) (r : Parts) → (T k r).after ≡ Hijack → (T k r).hijacker ≡ Some h → c.calls ≡ suc k
    → ClosesAt c.ending.closing c.calls ((T k r).after ≡ Hijack) c.unfed → over ≡ false
    → Stands V T over given sent k (replies r) c.unfed [] → HoldsAt b V T s over given sent (with_told c ring left)
hands_at {B} {H} V T s over given sent c h ring left b e k r taken who count closes live stands =
    told_at V T s over given sent c k r h c.unfed count (closes_for c.ending.closing c.calls ((T k r).after ≡ Hijack) ⊤ c.unfed (λ x. tt) closes) h c.unfed ring left b e live refl (λ later behind. behind)
    (subst (λ (x : List ℕ). Stands V T over given sent k (hands_over r h) c.unfed x)
    (ap (λ (o : Bool). tail_of V h c.unfed o) live ∙ tail_so_far V h c.unfed)
    (stands_handed V T over given sent c.unfed r h k stands taken who))

-- safety behind what it was told
pub told_rest : {B H : Type 0} (V : Voice H) (h : H) (piece ring left : List ℕ) (intake : Intake) (calls : ℕ) (m : Ending) (b : At B H)
    → Tells V h piece b ring left → RestsAt b intake left ring calls m
told_rest {B} {H} V h piece ring left intake calls m at.Reading e = absurd e
told_rest {B} {H} V h piece ring left intake calls m at.Asked e = absurd e
told_rest {B} {H} V h piece ring left intake calls m (at.Refused f) e = absurd e
told_rest {B} {H} V h piece ring left intake calls m (at.Answering f) e = absurd e
told_rest {B} {H} V h piece ring left intake calls m (at.Writing keeps) e = absurd e
told_rest {B} {H} V h piece ring left intake calls m (at.Handing now) e = absurd e
told_rest {B} {H} V h piece ring left intake calls m at.Refusing e = absurd e
told_rest {B} {H} V h piece ring left intake calls m (at.Listening now) e = (e.0.left_is, e.1)
told_rest {B} {H} V h piece ring left intake calls m (at.Speaking now) e = (e.0.left_is, e.1)
told_rest {B} {H} V h piece ring left intake calls m at.Parting e = e.1
told_rest {B} {H} V h piece ring left intake calls m (at.Over w) e = tt

pub end_rest : {B H : Type 0} (V : Voice H) (h : H) (ring left : List ℕ) (intake : Intake) (calls : ℕ) (m : Ending) (b : At B H)
    → TellsEnd V h b ring → RestsAt b intake left ring calls m
end_rest {B} {H} V h ring left intake calls m at.Reading e = absurd e
end_rest {B} {H} V h ring left intake calls m at.Asked e = absurd e
end_rest {B} {H} V h ring left intake calls m (at.Refused f) e = absurd e
end_rest {B} {H} V h ring left intake calls m (at.Answering f) e = absurd e
end_rest {B} {H} V h ring left intake calls m (at.Writing keeps) e = absurd e
end_rest {B} {H} V h ring left intake calls m (at.Handing now) e = absurd e
end_rest {B} {H} V h ring left intake calls m at.Refusing e = absurd e
end_rest {B} {H} V h ring left intake calls m (at.Listening now) e = absurd e
end_rest {B} {H} V h ring left intake calls m (at.Speaking now) e = absurd e
end_rest {B} {H} V h ring left intake calls m at.Parting e = e.1
end_rest {B} {H} V h ring left intake calls m (at.Over w) e = tt

module _ {B H : Type 0} (V : Voice H) (T : Teller H) (old new : Seen) (peer : List ℕ) (c : Kept) (now : H) (one : IsOneRead old new) (none : c.ring ≡ []) where
  -- bytes came, and were told to the hijacker that has the connection
  pub heard : (b : At B H) (piece ring left : List ℕ) (taken : ℕ) → taken ≡ min (c.taken + length piece) (2 ^ 64 - 1) → new.given ≡ appended old.given piece → new.over ≡ old.over → Tells V now piece b ring left
      → StandsAt {B = B} V T old peer (at.Listening now) c → StandsAt V T new peer b (with_told (with_count c taken) ring left)
  heard b piece ring left taken counted given_is over_is e h =
      let x : Hears V T h.over h.given h.sent c now = h.at in
      let q : Handed V T h.over h.given h.sent c = x.handed in
      let before : Stands V T false h.given h.sent q.k (hands_over q.request q.first) q.rest [] =
      subst (λ (o : Bool). Stands V T o h.given h.sent q.k (hands_over q.request q.first) q.rest []) x.live
      (subst (λ (l : List ℕ). Stands V T h.over h.given h.sent q.k (hands_over q.request q.first) q.rest l) none q.stands) in
      let behind : Stands V T h.over (h.given ++ piece) h.sent q.k (hands_over q.request q.first) (q.rest ++ piece) (V.says now piece).bytes =
      subst (λ (l : List ℕ). Stands V T h.over (h.given ++ piece) h.sent q.k (hands_over q.request q.first) (q.rest ++ piece) l)
      (ap (λ (o : Bool). tail_of V now piece o) x.live ∙ tail_so_far V now piece)
      (stands_heard V T h.over h.given h.sent q.k q.request q.first now q.rest [] piece before x.behind) in
      record {
        given = h.given ++ piece;
        sent = h.sent;
        over = h.over;
        shows = shows_given old new peer h.given h.sent h.over piece one given_is over_is h.shows;
        counts = counted ∙ taken_more h.given piece c.taken h.counts;
        at = told_at V T new h.over (h.given ++ piece) h.sent (with_count c taken) q.k q.request q.first (q.rest ++ piece) q.count (closes_taken c.ending.closing c.calls q.rest (q.rest ++ piece) q.closes) now piece ring left b e x.live
            (goes_as V q.first now q.rest piece x.behind) (λ later behind. goes_then V q.first now later q.rest piece x.behind behind) behind;
      }

  -- the peer ended, and that was told to it
  pub heard_end : (b : At B H) (ring left : List ℕ) → new.given ≡ old.given → new.over ≡ marked old.over → TellsEnd V now b ring
      → StandsAt {B = B} V T old peer (at.Listening now) c → StandsAt V T new peer b (with_told c ring left)
  heard_end b ring left given_is over_is e h =
      let x : Hears V T h.over h.given h.sent c now = h.at in
      let q : Handed V T h.over h.given h.sent c = x.handed in
      let before : Stands V T false h.given h.sent q.k (hands_over q.request q.first) q.rest [] =
      subst (λ (o : Bool). Stands V T o h.given h.sent q.k (hands_over q.request q.first) q.rest []) x.live
      (subst (λ (l : List ℕ). Stands V T h.over h.given h.sent q.k (hands_over q.request q.first) q.rest l) none q.stands) in
      let last : V.ends q.first q.rest ≡ V.ends now [] = ap (V.ends q.first) (sym (append-nil q.rest)) ∙ x.behind.ended [] in
      record {
        given = h.given;
        sent = h.sent;
        over = true;
        shows = shows_over old new peer h.given h.sent h.over one given_is over_is h.shows;
        counts = h.counts;
        at = told_end V T new true h.given h.sent c q.k q.request q.first q.rest q.count q.closes now ring left b e refl
            (subst (λ (l : List ℕ). Stands V T true h.given h.sent q.k (hands_over q.request q.first) q.rest l) last
            (stands_over V T h.given h.sent q.k q.request q.first q.rest [] before x.goes));
      }

  -- nothing came yet
  pub hears_nothing : (d : Kept) → d.intake ≡ c.intake → d.unfed ≡ c.unfed → d.ring ≡ c.ring → d.calls ≡ c.calls → d.taken ≡ c.taken → d.ending ≡ c.ending
      → new.given ≡ old.given → new.over ≡ old.over → StandsAt {B = B} V T old peer (at.Listening now) c → StandsAt {B = B} V T new peer (at.Listening now) d
  hears_nothing d i l r n t m given_is over_is h = record {
    given = h.given;
    sent = h.sent;
    over = h.over;
    shows = shows_unread old new peer h.given h.sent h.over one given_is over_is h.shows;
    counts = t ∙ h.counts;
    at = subst (λ (x : Kept). HoldsAt {B = B} (at.Listening now) V T new h.over h.given h.sent x) (kept_same c d i l r n t m) h.at;
  }

  -- the read failed
  pub hears_failure : (d : Kept) → d.calls ≡ c.calls → d.taken ≡ c.taken → d.ending ≡ c.ending → new.given ≡ old.given → new.over ≡ old.over → Rose old.failed_reads new.failed_reads
      → StandsAt {B = B} V T old peer (at.Listening now) c → StandsAt {B = B} V T new peer (at.Over why.ReadFailed) d
  hears_failure d n t m given_is over_is rose h =
      let x : Hears V T h.over h.given h.sent c now = h.at in
      let q : Handed V T h.over h.given h.sent c = x.handed in
      let one_more : c.calls ≡ q.k + 1 = omega (arith, q.count) in
      record {
        given = h.given;
        sent = h.sent;
        over = h.over;
        shows = shows_unread old new peer h.given h.sent h.over one given_is over_is h.shows;
        counts = t ∙ h.counts;
        at = over_same why.ReadFailed V T new h.over h.given h.sent c d n m (
          rose_some old.failed_reads new.failed_reads rose,
          inr (record {
            word = hands_over q.request q.first;
            lacks = c.ring;
            partly = record { k = q.k; rest = q.rest; calls_is = one_more; stands = q.stands; closes = q.closes };
            taken = tt;
          }),
        );
      }

-- the same of a place at which one has the connection
module _ {B H : Type 0} (V : Voice H) (T : Teller H) (old new : Seen) (peer : List ℕ) (c : Kept) (one : IsOneRead old new) (none : c.ring ≡ []) where
  pub heard_at : (a b : At B H) (piece before ring left : List ℕ) (taken : ℕ) → taken ≡ min (c.taken + length piece) (2 ^ 64 - 1)
      → IsHearing a → new.given ≡ appended old.given piece → new.over ≡ old.over
      → HandsOn V a piece before b ring left → StandsAt V T old peer a c → StandsAt V T new peer b (with_told (with_count c taken) ring left)
  heard_at at.Reading b piece before ring left taken counted is given_is over_is e h = absurd is
  heard_at at.Asked b piece before ring left taken counted is given_is over_is e h = absurd is
  heard_at (at.Refused f) b piece before ring left taken counted is given_is over_is e h = absurd is
  heard_at (at.Answering f) b piece before ring left taken counted is given_is over_is e h = absurd is
  heard_at (at.Writing keeps) b piece before ring left taken counted is given_is over_is e h = absurd is
  heard_at (at.Handing now) b piece before ring left taken counted is given_is over_is e h = absurd is
  heard_at at.Refusing b piece before ring left taken counted is given_is over_is e h = absurd is
  heard_at (at.Listening now) b piece before ring left taken counted is given_is over_is e h = heard V T old new peer c now one none b piece ring left taken counted given_is over_is e h
  heard_at (at.Speaking now) b piece before ring left taken counted is given_is over_is e h = absurd is
  heard_at at.Parting b piece before ring left taken counted is given_is over_is e h = absurd is
  heard_at (at.Over w) b piece before ring left taken counted is given_is over_is e h = absurd is

  pub end_at : (a b : At B H) (ring left : List ℕ) → IsHearing a → new.given ≡ old.given → new.over ≡ marked old.over
      → EndsOn V a b ring → StandsAt V T old peer a c → StandsAt V T new peer b (with_told c ring left)
  end_at at.Reading b ring left is given_is over_is e h = absurd is
  end_at at.Asked b ring left is given_is over_is e h = absurd is
  end_at (at.Refused f) b ring left is given_is over_is e h = absurd is
  end_at (at.Answering f) b ring left is given_is over_is e h = absurd is
  end_at (at.Writing keeps) b ring left is given_is over_is e h = absurd is
  end_at (at.Handing now) b ring left is given_is over_is e h = absurd is
  end_at at.Refusing b ring left is given_is over_is e h = absurd is
  end_at (at.Listening now) b ring left is given_is over_is e h = heard_end V T old new peer c now one none b ring left given_is over_is e h
  end_at (at.Speaking now) b ring left is given_is over_is e h = absurd is
  end_at at.Parting b ring left is given_is over_is e h = absurd is
  end_at (at.Over w) b ring left is given_is over_is e h = absurd is

  pub nothing_at : (a : At B H) (d : Kept) → IsHearing a → d.intake ≡ c.intake → d.unfed ≡ c.unfed → d.ring ≡ c.ring → d.calls ≡ c.calls → d.taken ≡ c.taken
      → d.ending ≡ c.ending → new.given ≡ old.given → new.over ≡ old.over → StandsAt V T old peer a c → StandsAt V T new peer a d
  nothing_at at.Reading d is i l r n t m given_is over_is h = absurd is
  nothing_at at.Asked d is i l r n t m given_is over_is h = absurd is
  nothing_at (at.Refused f) d is i l r n t m given_is over_is h = absurd is
  nothing_at (at.Answering f) d is i l r n t m given_is over_is h = absurd is
  nothing_at (at.Writing keeps) d is i l r n t m given_is over_is h = absurd is
  nothing_at (at.Handing now) d is i l r n t m given_is over_is h = absurd is
  nothing_at at.Refusing d is i l r n t m given_is over_is h = absurd is
  nothing_at (at.Listening now) d is i l r n t m given_is over_is h = hears_nothing {B = B} V T old new peer c now one none d i l r n t m given_is over_is h
  nothing_at (at.Speaking now) d is i l r n t m given_is over_is h = absurd is
  nothing_at at.Parting d is i l r n t m given_is over_is h = absurd is
  nothing_at (at.Over w) d is i l r n t m given_is over_is h = absurd is

  pub failure_at : (a : At B H) (d : Kept) → IsHearing a → d.calls ≡ c.calls → d.taken ≡ c.taken → d.ending ≡ c.ending → new.given ≡ old.given → new.over ≡ old.over
      → Rose old.failed_reads new.failed_reads → StandsAt V T old peer a c → StandsAt {B = B} V T new peer (at.Over why.ReadFailed) d
  failure_at at.Reading d is n t m given_is over_is rose h = absurd is
  failure_at at.Asked d is n t m given_is over_is rose h = absurd is
  failure_at (at.Refused f) d is n t m given_is over_is rose h = absurd is
  failure_at (at.Answering f) d is n t m given_is over_is rose h = absurd is
  failure_at (at.Writing keeps) d is n t m given_is over_is rose h = absurd is
  failure_at (at.Handing now) d is n t m given_is over_is rose h = absurd is
  failure_at at.Refusing d is n t m given_is over_is rose h = absurd is
  failure_at (at.Listening now) d is n t m given_is over_is rose h = hears_failure {B = B} V T old new peer c now one none d n t m given_is over_is rose h
  failure_at (at.Speaking now) d is n t m given_is over_is rose h = absurd is
  failure_at at.Parting d is n t m given_is over_is rose h = absurd is
  failure_at (at.Over w) d is n t m given_is over_is rose h = absurd is

-- where a hijacker has the connection nothing is owed and nothing unfed
pub hearing_rests : {B H : Type 0} (a : At B H) (intake : Intake) (unfed ring : List ℕ) (calls : ℕ) (m : Ending) → IsHearing a → RestsAt a intake unfed ring calls m
    → (unfed ≡ []) × (ring ≡ [])
hearing_rests {B} {H} at.Reading intake unfed ring calls m is h = absurd is
hearing_rests {B} {H} at.Asked intake unfed ring calls m is h = absurd is
hearing_rests {B} {H} (at.Refused f) intake unfed ring calls m is h = absurd is
hearing_rests {B} {H} (at.Answering f) intake unfed ring calls m is h = absurd is
hearing_rests {B} {H} (at.Writing keeps) intake unfed ring calls m is h = absurd is
hearing_rests {B} {H} (at.Handing now) intake unfed ring calls m is h = absurd is
hearing_rests {B} {H} at.Refusing intake unfed ring calls m is h = absurd is
hearing_rests {B} {H} (at.Listening now) intake unfed ring calls m is h = h
hearing_rests {B} {H} (at.Speaking now) intake unfed ring calls m is h = absurd is
hearing_rests {B} {H} at.Parting intake unfed ring calls m is h = absurd is
hearing_rests {B} {H} (at.Over w) intake unfed ring calls m is h = absurd is

-- safety behind what was told at such a place
pub heard_rest : {B H : Type 0} (V : Voice H) (a b : At B H) (piece before ring left : List ℕ) (intake : Intake) (calls : ℕ) (m : Ending) → IsHearing a
    → HandsOn V a piece before b ring left → RestsAt b intake left ring calls m
heard_rest {B} {H} V at.Reading b piece before ring left intake calls m is e = absurd is
heard_rest {B} {H} V at.Asked b piece before ring left intake calls m is e = absurd is
heard_rest {B} {H} V (at.Refused f) b piece before ring left intake calls m is e = absurd is
heard_rest {B} {H} V (at.Answering f) b piece before ring left intake calls m is e = absurd is
heard_rest {B} {H} V (at.Writing keeps) b piece before ring left intake calls m is e = absurd is
heard_rest {B} {H} V (at.Handing now) b piece before ring left intake calls m is e = absurd is
heard_rest {B} {H} V at.Refusing b piece before ring left intake calls m is e = absurd is
heard_rest {B} {H} V (at.Listening now) b piece before ring left intake calls m is e = told_rest V now piece ring left intake calls m b e
heard_rest {B} {H} V (at.Speaking now) b piece before ring left intake calls m is e = absurd is
heard_rest {B} {H} V at.Parting b piece before ring left intake calls m is e = absurd is
heard_rest {B} {H} V (at.Over w) b piece before ring left intake calls m is e = absurd is

pub heard_end_rest : {B H : Type 0} (V : Voice H) (a b : At B H) (ring left : List ℕ) (intake : Intake) (calls : ℕ) (m : Ending) → IsHearing a
    → EndsOn V a b ring → RestsAt b intake left ring calls m
heard_end_rest {B} {H} V at.Reading b ring left intake calls m is e = absurd is
heard_end_rest {B} {H} V at.Asked b ring left intake calls m is e = absurd is
heard_end_rest {B} {H} V (at.Refused f) b ring left intake calls m is e = absurd is
heard_end_rest {B} {H} V (at.Answering f) b ring left intake calls m is e = absurd is
heard_end_rest {B} {H} V (at.Writing keeps) b ring left intake calls m is e = absurd is
heard_end_rest {B} {H} V (at.Handing now) b ring left intake calls m is e = absurd is
heard_end_rest {B} {H} V at.Refusing b ring left intake calls m is e = absurd is
heard_end_rest {B} {H} V (at.Listening now) b ring left intake calls m is e = end_rest V now ring left intake calls m b e
heard_end_rest {B} {H} V (at.Speaking now) b ring left intake calls m is e = absurd is
heard_end_rest {B} {H} V at.Parting b ring left intake calls m is e = absurd is
heard_end_rest {B} {H} V (at.Over w) b ring left intake calls m is e = absurd is

-- safety where nothing came
pub nothing_rest : {B H : Type 0} (a : At B H) (intake : Intake) (unfed left ring : List ℕ) (calls : ℕ) (m : Ending) → IsHearing a → left ≡ []
    → RestsAt a intake unfed ring calls m → RestsAt a intake left ring calls m
nothing_rest {B} {H} at.Reading intake unfed left ring calls m is e h = absurd is
nothing_rest {B} {H} at.Asked intake unfed left ring calls m is e h = absurd is
nothing_rest {B} {H} (at.Refused f) intake unfed left ring calls m is e h = absurd is
nothing_rest {B} {H} (at.Answering f) intake unfed left ring calls m is e h = absurd is
nothing_rest {B} {H} (at.Writing keeps) intake unfed left ring calls m is e h = absurd is
nothing_rest {B} {H} (at.Handing now) intake unfed left ring calls m is e h = absurd is
nothing_rest {B} {H} at.Refusing intake unfed left ring calls m is e h = absurd is
nothing_rest {B} {H} (at.Listening now) intake unfed left ring calls m is e h = (e, h.1)
nothing_rest {B} {H} (at.Speaking now) intake unfed left ring calls m is e h = absurd is
nothing_rest {B} {H} at.Parting intake unfed left ring calls m is e h = absurd is
nothing_rest {B} {H} (at.Over w) intake unfed left ring calls m is e h = absurd is
