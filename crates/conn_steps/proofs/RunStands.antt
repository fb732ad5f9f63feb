-- What stands once a request was run or a refusal is named.
use Rattle.std.proofs.Common.{◌≡◌, ℕ, suc, ◌+◌, ◌<◌, Bool, List, [], ◌++◌, length, refl, sym, ap, subst, ◌∙◌, arith, Option, None, Some, inr, true, false}
use Rattle.std.specs.Prelude.{nat_lt, ◌&&◌, ◌||◌, ◌==◌, if◌then◌else◌}
use Rattle.std.proofs.lemmas.Bool.Decides.{nat_tests}
use Rattle.std.proofs.lemmas.List.{append-nil, nil_from_length}
use Rattle.rack_types.specs.declared.answer.Answer.{Answer}
use Rattle.rack_types.specs.declared.fault.Fault.{Fault}
use Rattle.rack_types.specs.declared.peer.Local.{Local}
use Rattle.rack_types.specs.Body.{Content}
use Rattle.rack_types.specs.Env.{Pairs, Environment}
use Rattle.rack_types.specs.Request.{Parts}
use Rattle.rack_env.specs.Environment.{env_pairs, environment}
use Rattle.rack_outside.specs.Link.{Seen}
use Rattle.message_framing.specs.declared.intake.Intake.{Intake}
use Rattle.message_framing.specs.Intake.{Fed, StandsWhole}
use Rattle.message_framing.specs.Request.{IsRequest, Refusal}
use Rattle.reply_framing.specs.declared.types.After.{After}
use Rattle.reply_framing.specs.declared.types.After.TheVariants.{Keep, Close, Hijack}
use Rattle.reply_framing.specs.declared.types.Ask.{Ask}
use Rattle.reply_framing.specs.Fault.{fault_reply}
use Rattle.reply_framing.specs.Owes.{StandsFor}
use Rattle.reply_framing.specs.Reply.{WholeReply, reply, body_after}
use Rattle.reply_framing.proofs.CallerLemmas.{owes_at_start}
use Rattle.talk_core.specs.declared.ended.Why.TheVariants as why
use Rattle.talk_core.specs.Stands.{Stands, ClosesAt, replies, refuses}
use Rattle.talk_core.specs.Tail.{Voice}
use Rattle.talk_core.specs.Teller.{Stack, Teller, reply_of, ask_of, is_last}
use Rattle.talk_core.proofs.CallerLemmas.{stands_asked, stands_refused, reply_keeps, not_last_below, closes_none}
use Rattle.conn_steps.specs.declared.moments.Ending.{Ending}
use Rattle.conn_steps.specs.declared.moments.Late.{Late}
use Rattle.conn_steps.specs.declared.at.At.{At}
use Rattle.conn_steps.specs.declared.at.At.TheVariants as at
use Rattle.conn_steps.specs.Holds.{Kept, past, Between, Replying, Refuses, HoldsAt, StandsAt}
use Rattle.conn_steps.specs.Keeps.{drains_now, ending_run, no_bytes}
use Rattle.conn_steps.specs.Plain.{EndsPlainly}
use Rattle.conn_steps.specs.Rests.{GoesOn, RestsAt, IsAbsent, IsUnended}
use Rattle.conn_steps.specs.Steps.{HandsOver, BeginsAt, HandsOn}
use Rattle.conn_steps.proofs.FeedStands.{silent_lacks}
use Rattle.conn_steps.proofs.HijackStands.{with_told, hands_at, told_rest}
use Rattle.conn_steps.proofs.AtLemmas.{kept_same, over_same, unclosed, untimed}

-- what is owed of a reply, with want of memory
pub unsaid : {H : Type 0} (V : Voice H) (T : Teller H) (s : Seen) (over : Bool) (given sent : List ℕ) (c : Kept) (k : ℕ) (r : Parts) (behind : List ℕ)
    → Replying V T over given sent c k r behind → EndsPlainly c.ending why.NoMemory V T (past s c given sent over)
unsaid {H} V T s over given sent c k r behind h =
    let n : c.calls ≡ k + 1 = omega (arith, h.count) in
    (c.ring ++ behind, record { word = replies r; untimed = tt; partly = record { k = k; rest = c.unfed; calls_is = n; stands = h.stands; closes = h.closes } })

module _ {B H : Type 0} (V : Voice H) (T : Teller H) (s : Seen) (over : Bool) (given sent : List ℕ) (c : Kept) (k : ℕ) (r : Parts)
    (ask : Ask) (ps : Pairs) (a : Answer Content H) (last : Bool) (is : T k r ≡ reply ask ps a last)
    (h : Replying V T over given sent c k r (T k r).bytes) where
  -- the reply begins, or memory was refused
  pub begun : (b : At B H) → BeginsAt ask ps a last b → HoldsAt b V T s over given sent c
  begun at.Reading f = absurd f
  begun at.Asked f = absurd f
  begun (at.Refused fault) f = absurd f
  begun (at.Answering framer) f =
      let stands : StandsFor framer (T k r) = subst (λ (w : WholeReply H). StandsFor framer w) (sym is) f.0 in
      (k, r, [], owes_at_start framer (T k r) stands, subst (λ (x : List ℕ). Replying V T over given sent c k r x) (sym stands.bytes) h)
  begun (at.Writing keeps) f = absurd f
  begun (at.Handing who) f =
      let over_to : HandsOver who (T k r) = subst (λ (w : WholeReply H). HandsOver who w) (sym is) f in
      (k, r, over_to.after, over_to.hijacker, subst (λ (x : List ℕ). Replying V T over given sent c k r x) over_to.bytes h)
  begun at.Refusing f = absurd f
  begun (at.Listening who) f = absurd f
  begun (at.Speaking who) f = absurd f
  begun at.Parting f = absurd f
  begun (at.Over why.Closed) f = absurd f
  begun (at.Over why.PeerEnd) f = absurd f
  begun (at.Over (why.Idle by)) f = absurd f
  begun (at.Over (why.TimedOut since moment)) f = absurd f
  begun (at.Over (why.Stalled since moment)) f = absurd f
  begun (at.Over (why.Unread level)) f = absurd f
  begun (at.Over why.ReadFailed) f = absurd f
  begun (at.Over why.WriteFailed) f = absurd f
  begun (at.Over (why.Halted level)) f = absurd f
  begun (at.Over why.NoMemory) f = unsaid V T s over given sent c k r (T k r).bytes h
  begun (at.Over why.Hijacked) f = absurd f

-- the parts behind a run
abbrev pub with_run : Kept → Intake → ℕ → Ending → Kept
with_run c intake calls ending = record c { intake = intake; calls = calls; ending = ending }

-- the reply to the request that is run may close by draining, where no byte is unfed behind it
pub run_closes : (told calls n : ℕ) (closing : Option ℕ) (unfed : List ℕ) (P : Type 0) → n ≡ calls + 1 → closing ≡ None
    → ClosesAt (if drains_now told unfed then Some calls else closing) n P unfed
run_closes told calls n closing unfed P e none = go (nat_lt 0 told) (no_bytes unfed) refl
  where
    nothing : no_bytes unfed ≡ true → unfed ≡ []
    nothing same = let size : length unfed ≡ 0 = grind (arith, nat_tests, same) in nil_from_length unfed size

    go : (b d : Bool) → no_bytes unfed ≡ d → ClosesAt (if b && d then Some calls else closing) n P unfed
    go false d same = closes_none closing n P unfed none
    go true false same = closes_none closing n P unfed none
    go true true same = (e, inr (nothing same))

module _ {B H : Type 0} (V : Voice H) (T : Teller H) (s : Seen) (peer : List ℕ) (local : Local) (c : Kept) where
  -- the request that stands was run
  pub answered : (b : At B H) (intake : Intake) (calls : ℕ) (m : Ending) (stack : Stack H) (last : Bool) (ask : Ask) (env : Environment) → calls ≡ c.calls + 1
      → m ≡ ending_run c.ending c.unfed c.calls → last ≡ is_last m.closing c.calls
      → ((now : List ℕ) (r : Parts) → Fed c.intake now → IsRequest now r → (ask ≡ ask_of r) × (env ≡ environment r peer local))
      → BeginsAt ask env.pairs (stack env.pairs env.input.bytes) last b
      → ((r : Parts) → T c.calls r ≡ reply_of stack (env_pairs r peer local) r (is_last m.closing c.calls))
      → StandsAt {B = B} V T s peer at.Asked c → StandsAt V T s peer b (with_run c intake calls m)
  answered b intake calls m stack last ask env one ending_is is_the_last asks f told h =
      let now = h.at.0 in
      let r = h.at.1 in
      let between : Between V T h.over h.given h.sent c now = h.at.3 in
      let same = asks now r between.fed h.at.2 in
      let is : T c.calls r ≡ reply ask env.pairs (stack env.pairs env.input.bytes) last =
      told r ∙ sym (ap (λ (e : Environment). reply (ask_of r) e.pairs (stack e.pairs e.input.bytes) (is_last m.closing c.calls)) same.1)
      ∙ sym (ap (λ (q : Ask). reply q env.pairs (stack env.pairs env.input.bytes) (is_last m.closing c.calls)) same.0)
      ∙ sym (ap (λ (l : Bool). reply ask env.pairs (stack env.pairs env.input.bytes) l) is_the_last) in
      let n : calls ≡ suc c.calls = omega (arith, one) in
      record {
        given = h.given;
        sent = h.sent;
        over = h.over;
        shows = h.shows;
        counts = h.counts;
        at = begun V T s h.over h.given h.sent (with_run c intake calls m) c.calls r ask env.pairs (stack env.pairs env.input.bytes) last is
            (record {
              count = n;
              live = between.live;
              closes = subst (λ (x : Ending). ClosesAt x.closing calls ((T c.calls r).after ≡ Hijack) c.unfed) (sym ending_is)
                  (run_closes c.ending.told c.calls calls c.ending.closing c.unfed ((T c.calls r).after ≡ Hijack) one (unclosed c.ending between.unended));
              stands = subst (λ (x : List ℕ). Stands V T h.over h.given h.sent c.calls (replies r) c.unfed (x ++ (T c.calls r).bytes)) (sym between.ring)
                  (stands_asked V T h.over h.given h.sent now c.unfed r c.calls between.stands h.at.2);
            }) b f;
      }

  -- its environment wanted memory, and it was not run
  pub unanswered : (d : Kept) → d.calls ≡ c.calls → d.taken ≡ c.taken → d.ending ≡ c.ending → StandsAt {B = B} V T s peer at.Asked c → StandsAt {B = B} V T s peer (at.Over why.NoMemory) d
  unanswered d n t m h = record {
    given = h.given;
    sent = h.sent;
    over = h.over;
    shows = h.shows;
    counts = t ∙ h.counts;
    at = over_same why.NoMemory V T s h.over h.given h.sent c d n m
        (silent_lacks V T s h.over h.given h.sent (h.at.0 ++ c.unfed) c (unclosed c.ending h.at.3.unended) h.at.3.stands);
  }

  -- a refusal is named
  pub named : (f : Fault) (ring : List ℕ) → ring ≡ c.ring ++ fault_reply f → StandsAt {B = B} V T s peer (at.Refused f) c
      → StandsAt {B = B} V T s peer at.Refusing (record c { ring = ring })
  named f ring is h =
      let now = h.at.0 in
      let between : Between V T h.over h.given h.sent c now = h.at.3 in
      let whole : Refusal (now ++ c.unfed) f = subst (λ (x : List ℕ). Refusal (now ++ x) f) (sym h.at.2)
      (subst (λ (x : List ℕ). Refusal x f) (sym (append-nil now)) h.at.1) in
      record {
        given = h.given;
        sent = h.sent;
        over = h.over;
        shows = h.shows;
        counts = h.counts;
        at = subst (λ (x : Option Late). Refuses x V T h.over h.given h.sent (record c { ring = ring })) (sym (untimed c.ending between.unended)) (
          f,
          now ++ c.unfed,
          subst (λ (x : List ℕ). Stands V T h.over h.given h.sent c.calls (refuses f) (now ++ c.unfed) x)
              (sym (is ∙ ap (λ x. x ++ fault_reply f) between.ring))
              (stands_refused V T h.over h.given h.sent (now ++ c.unfed) f c.calls between.stands whole),
          unclosed c.ending between.unended,
        );
      }

-- nothing ends the connection behind a run whose reply isn't the last
run_unended : (old m : Ending) (unfed : List ℕ) (calls : ℕ) → IsUnended old → m ≡ ending_run old unfed calls → is_last m.closing calls ≡ false → IsUnended m
run_unended old m unfed calls unended is keeps =
    subst IsUnended (sym is) (go (drains_now old.told unfed) (ap (λ (x : Ending). is_last x.closing calls) (sym is) ∙ keeps), unended.1)
  where
    one_of : (a b : Bool) → b ≡ true → (a || b) ≡ false → ⊥
    one_of true b same e = cc
    one_of false b same e = cc

    same : (n : ℕ) → is_last (Some n) n ≡ false → ⊥
    same n e =
        let equal : (n == n) ≡ true = grind (arith, nat_tests) in one_of (n == 9999) (n == n) equal e

    go : (b : Bool) → is_last (if b then Some calls else old.closing) calls ≡ false → IsAbsent (if b then Some calls else old.closing)
    go true e = absurd (same calls e)
    go false e = unended.0

-- where the connection goes on behind the reply to a run there is a next request
goes_on_behind : {H : Type 0} (ask : Ask) (ps : Pairs) (a : Answer Content H) (calls : ℕ) (intake : Intake) (old m : Ending) (unfed : List ℕ)
    → IsUnended old → m ≡ ending_run old unfed calls
    → StandsWhole intake → calls < 10000 → (after : After) → after ≡ (reply ask ps a (is_last m.closing calls)).after → GoesOn after intake (calls + 1) m
goes_on_behind {H} ask ps a calls intake old m unfed unended is whole few Keep e =
    let keeps : is_last m.closing calls ≡ false = reply_keeps ask ps a (is_last m.closing calls) (sym e) in
    let below : calls < 9999 = not_last_below m.closing calls few keeps in
    let some : 0 < calls + 1 = omega arith in
    let left : calls + 1 < 10000 = omega (arith, below) in
    (whole, (some, (left, run_unended old m unfed calls unended is keeps)))
goes_on_behind {H} ask ps a calls intake old m unfed unended is whole few Close e = subst (λ (x : Ending). IsAbsent x.late) (sym is) unended.1
goes_on_behind {H} ask ps a calls intake old m unfed unended is whole few Hijack e = let some : 0 < calls + 1 = omega arith in some

more_behind : (n m : ℕ) → 0 < m → 0 < n + m
more_behind n m some = omega (arith, some)

-- nothing is owed where a request stands
pub asked_ring : {B H : Type 0} (a : At B H) (intake : Intake) (unfed ring : List ℕ) (calls : ℕ) (m : Ending) → a ≡ at.Asked → RestsAt a intake unfed ring calls m → ring ≡ []
asked_ring {B} {H} a intake unfed ring calls m e h = (subst (λ (b : At B H). RestsAt b intake unfed ring calls m) e h).0

pub asked_few : {B H : Type 0} (a : At B H) (intake : Intake) (unfed ring : List ℕ) (calls : ℕ) (m : Ending) → a ≡ at.Asked → RestsAt a intake unfed ring calls m → calls < 10000
asked_few {B} {H} a intake unfed ring calls m e h = (subst (λ (b : At B H). RestsAt b intake unfed ring calls m) e h).1.0

pub asked_unended : {B H : Type 0} (a : At B H) (intake : Intake) (unfed ring : List ℕ) (calls : ℕ) (m : Ending) → a ≡ at.Asked → RestsAt a intake unfed ring calls m
    → IsUnended m
asked_unended {B} {H} a intake unfed ring calls m e h = (subst (λ (b : At B H). RestsAt b intake unfed ring calls m) e h).1.1.1

-- safety behind a run, where the hijacker of a reply that says nothing was told the unfed bytes
pub begins_rest : {B H : Type 0} (V : Voice H) (a b : At B H) (ask : Ask) (ps : Pairs) (answer : Answer Content H) (last : Bool) (calls : ℕ) (intake : Intake)
    (unfed left before ring : List ℕ) (old m : Ending) → BeginsAt ask ps answer last a → HandsOn V a unfed before b ring left → StandsWhole intake
    → IsUnended old → m ≡ ending_run old unfed calls → last ≡ is_last m.closing calls → calls < 10000 → before ≡ [] → RestsAt b intake left ring (calls + 1) m
begins_rest {B} {H} V at.Reading b ask ps answer last calls intake unfed left before ring old m f e whole u en is few none = absurd f
begins_rest {B} {H} V at.Asked b ask ps answer last calls intake unfed left before ring old m f e whole u en is few none = absurd f
begins_rest {B} {H} V (at.Refused fault) b ask ps answer last calls intake unfed left before ring old m f e whole u en is few none = absurd f
begins_rest {B} {H} V (at.Answering framer) b ask ps answer last calls intake unfed left before ring old m f e whole u en is few none =
    subst (λ (d : At B H). RestsAt d intake left ring (calls + 1) m) (sym e.0) (
      more_behind (length ring) (length framer.rest.bytes) f.1,
      goes_on_behind ask ps answer calls intake old m unfed u en whole few (body_after framer.rest.rule framer.after)
          (f.0.after ∙ ap (λ (l : Bool). (reply ask ps answer l).after) is),
    )
begins_rest {B} {H} V (at.Writing keeps) b ask ps answer last calls intake unfed left before ring old m f e whole u en is few none = absurd f
begins_rest {B} {H} V (at.Handing who) b ask ps answer last calls intake unfed left before ring old m f e whole u en is few none =
    told_rest V who unfed ring left intake (calls + 1) m b e
begins_rest {B} {H} V at.Refusing b ask ps answer last calls intake unfed left before ring old m f e whole u en is few none = absurd f
begins_rest {B} {H} V (at.Listening who) b ask ps answer last calls intake unfed left before ring old m f e whole u en is few none = absurd f
begins_rest {B} {H} V (at.Speaking who) b ask ps answer last calls intake unfed left before ring old m f e whole u en is few none = absurd f
begins_rest {B} {H} V at.Parting b ask ps answer last calls intake unfed left before ring old m f e whole u en is few none = absurd f
begins_rest {B} {H} V (at.Over ended) b ask ps answer last calls intake unfed left before ring old m f e whole u en is few none =
    subst (λ (d : At B H). RestsAt d intake left ring (calls + 1) m) (sym e.0) tt

-- what stands behind a run, where that hijacker was told them
pub hands_hold : {B H : Type 0} (V : Voice H) (T : Teller H) (s : Seen) (peer : List ℕ) (c : Kept) (a b : At B H) (ask : Ask) (ps : Pairs)
    (answer : Answer Content H) (last : Bool) (before ring left : List ℕ) → BeginsAt ask ps answer last a → HandsOn V a c.unfed before b ring left
    → before ≡ c.ring → c.ring ≡ [] → StandsAt V T s peer a c → StandsAt V T s peer b (with_told c ring left)
hands_hold {B} {H} V T s peer c a b ask ps answer last before ring left f e same none h = record {
  given = h.given;
  sent = h.sent;
  over = h.over;
  shows = h.shows;
  counts = h.counts;
  at = go a f e h.at;
}
  where
    stays : (d : At B H) → b ≡ d → ring ≡ before → left ≡ c.unfed → HoldsAt d V T s h.over h.given h.sent c
        → HoldsAt b V T s h.over h.given h.sent (with_told c ring left)
    stays d is r l x =
        subst (λ (y : At B H). HoldsAt y V T s h.over h.given h.sent (with_told c ring left)) (sym is)
        (subst (λ (k : Kept). HoldsAt d V T s h.over h.given h.sent k) (kept_same c (with_told c ring left) refl l (r ∙ same) refl refl refl) x)

    go : (d : At B H) → BeginsAt ask ps answer last d → HandsOn V d c.unfed before b ring left → HoldsAt d V T s h.over h.given h.sent c
        → HoldsAt b V T s h.over h.given h.sent (with_told c ring left)
    go at.Reading y z x = absurd y
    go at.Asked y z x = absurd y
    go (at.Refused fault) y z x = absurd y
    go (at.Answering framer) y z x = stays (at.Answering framer) z.0 z.1 z.2 x
    go (at.Writing keeps) y z x = absurd y
    go (at.Handing who) y z x =
        hands_at V T s h.over h.given h.sent c who ring left b z x.0 x.1 x.2 x.3 x.4.count x.4.closes x.4.live
        (subst (λ (l : List ℕ). Stands V T h.over h.given h.sent x.0 (replies x.1) c.unfed (l ++ [])) none x.4.stands)
    go at.Refusing y z x = absurd y
    go (at.Listening who) y z x = absurd y
    go (at.Speaking who) y z x = absurd y
    go at.Parting y z x = absurd y
    go (at.Over ended) y z x = stays (at.Over ended) z.0 z.1 z.2 x
