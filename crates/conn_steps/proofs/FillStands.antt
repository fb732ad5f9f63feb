-- What stands once the ring was filled.
use Rattle.std.proofs.Common.{◌≡◌, ◌≢◌, ℕ, ◌+◌, ◌<◌, Bool, List, [], ◌++◌, length, refl, sym, ap, subst, ◌∙◌, arith, length-append, Option, Ok}
use Rattle.std.proofs.lemmas.List.{append-nil}
use Rattle.circular_buffer.specs.Buffer.{Buffer}
use Rattle.rack_types.specs.declared.rules.BodyRule.{BodyRule}
use Rattle.rack_outside.specs.Link.{Seen}
use Rattle.message_framing.specs.declared.intake.Intake.{Intake}
use Rattle.reply_framing.specs.declared.types.After.{After}
use Rattle.reply_framing.specs.declared.types.Filled.{Filled}
use Rattle.reply_framing.specs.declared.types.Filled.TheVariants.{Full, Done, Broke}
use Rattle.reply_framing.specs.Coming.{Coming, Rest}
use Rattle.reply_framing.specs.Fills.{Fills, after_then}
use Rattle.reply_framing.specs.Reply.{body_after}
use Rattle.reply_framing.proofs.CallerLemmas.{owes_fill, fill_moves}
use Rattle.talk_core.specs.declared.ended.Why.TheVariants as why
use Rattle.talk_core.specs.Stands.{Stands, replies}
use Rattle.talk_core.specs.Tail.{Voice}
use Rattle.talk_core.specs.Teller.{Teller}
use Rattle.conn_steps.specs.declared.moments.Ending.{Ending}
use Rattle.conn_steps.specs.declared.at.At.{At}
use Rattle.conn_steps.specs.declared.at.At.TheVariants as at
use Rattle.conn_steps.specs.Holds.{Kept, HoldsAt, StandsAt}
use Rattle.conn_steps.specs.At.{IsSaying}
use Rattle.conn_steps.specs.Rests.{GoesOn, RestsAt}
use Rattle.conn_steps.specs.Steps.{IsWritten, Written, WrittenTo, FillsFrom, FillsTo}
use Rattle.conn_steps.proofs.RunStands.{unsaid}
use Rattle.conn_steps.proofs.WriteStands.{with_ring}

-- what is behind a framer that was filled from and has no more to append
pub fills_written : {B H : Type 0} (f new : Coming H) (result : Filled) (x y : Buffer ℕ) (b : At B H) → result ≢ Full → Fills f.rest (Ok result) new.rest x y
    → new.after ≡ after_then (Ok result) f.after → new.hijacker ≡ f.hijacker → IsWritten new b → FillsFrom f x b y
fills_written {B} {H} f new result x y at.Reading unfilled fills after who w = absurd w
fills_written {B} {H} f new result x y at.Asked unfilled fills after who w = absurd w
fills_written {B} {H} f new result x y (at.Refused fault) unfilled fills after who w = absurd w
fills_written {B} {H} f new result x y (at.Answering framer) unfilled fills after who w = absurd w
fills_written {B} {H} f new result x y (at.Writing keeps) unfilled fills after who w =
    record { new = new; result = result; unfilled = unfilled; fills = fills; after_is = after; hijacker_is = who; keeps_is = w }
fills_written {B} {H} f new result x y (at.Handing h) unfilled fills after who w =
    record { new = new; result = result; unfilled = unfilled; fills = fills; after_is = after; hijacker_is = who; taken = w.0; who = w.1 }
fills_written {B} {H} f new result x y at.Refusing unfilled fills after who w = absurd w
fills_written {B} {H} f new result x y (at.Listening h) unfilled fills after who w = absurd w
fills_written {B} {H} f new result x y (at.Speaking h) unfilled fills after who w = absurd w
fills_written {B} {H} f new result x y at.Parting unfilled fills after who w = absurd w
fills_written {B} {H} f new result x y (at.Over ended) unfilled fills after who w = absurd w

-- behind the last fill `after` is what the reply tells, over what was to come
after_by_rule : {H : Type 0} (f new : Coming H) (result : Filled) (x y : Buffer ℕ) → result ≢ Full → Fills f.rest (Ok result) new.rest x y
    → new.after ≡ after_then (Ok result) f.after → new.after ≡ body_after f.rest.rule f.after
after_by_rule {H} f new Full x y unfilled fills after = absurd (unfilled refl)
after_by_rule {H} f new Done x y unfilled fills after =
    after ∙ ap (λ (o : Option BodyRule). body_after o f.after) (sym (sym fills.rule ∙ fills.answer.1))
after_by_rule {H} f new (Broke rule) x y unfilled fills after =
    after ∙ ap (λ (o : Option BodyRule). body_after o f.after) (sym (sym fills.rule ∙ fills.answer.1))

none_left : {H : Type 0} (new : Coming H) (o : Rest) (result : Filled) (x y : Buffer ℕ) → result ≢ Full → Fills o (Ok result) new.rest x y
    → new.rest.bytes ≡ []
none_left {H} new o Full x y unfilled fills = absurd (unfilled refl)
none_left {H} new o Done x y unfilled fills = fills.answer.0
none_left {H} new o (Broke rule) x y unfilled fills = fills.answer.0

-- all that was to come is in the ring
pub written_ring : {H : Type 0} (f : Coming H) (x y : Buffer ℕ) (keeps : Bool) → Written f x keeps y → y.items ≡ x.items ++ f.rest.bytes
written_ring {H} f x y keeps w =
    sym (ap (λ z. y.items ++ z) (none_left w.new f.rest w.result x y w.unfilled w.fills) ∙ append-nil y.items)
    ∙ fill_moves f.rest w.new.rest (Ok w.result) x y w.fills

pub handed_ring : {H : Type 0} (f : Coming H) (x y : Buffer ℕ) (who : H) → WrittenTo f x who y → y.items ≡ x.items ++ f.rest.bytes
handed_ring {H} f x y who w =
    sym (ap (λ z. y.items ++ z) (none_left w.new f.rest w.result x y w.unfilled w.fills) ∙ append-nil y.items)
    ∙ fill_moves f.rest w.new.rest (Ok w.result) x y w.fills

module _ {B H : Type 0} (V : Voice H) (T : Teller H) (s : Seen) (over : Bool) (given sent : List ℕ) (c : Kept) (f : Coming H) (x y : Buffer ℕ)
    (ring_is : c.ring ≡ x.items) where
  -- a fill of the framer
  fills_from : (b : At B H) → FillsFrom f x b y → HoldsAt {B = B} (at.Answering f) V T s over given sent c
      → HoldsAt b V T s over given sent (with_ring c y.items)
  fills_from at.Reading e h = absurd e
  fills_from at.Asked e h = absurd e
  fills_from (at.Refused fault) e h = absurd e
  fills_from (at.Answering new) e h =
      let moved : c.ring ++ f.rest.bytes ≡ y.items ++ new.rest.bytes =
      ap (λ z. z ++ f.rest.bytes) ring_is ∙ sym (fill_moves f.rest new.rest (Ok Full) x y e.0) in (
        h.0,
        h.1,
        h.2 ++ e.0.appends.sent,
        owes_fill f new (T h.0 h.1) h.2 (Ok Full) x y h.3 e.0 e.1 e.2,
        record {
          count = h.4.count;
          live = h.4.live;
          closes = h.4.closes;
          stands = subst (λ (z : List ℕ). Stands V T over given sent h.0 (replies h.1) c.unfed z) moved h.4.stands;
        },
      )
  fills_from (at.Writing keeps) e h =
      let moved : c.ring ++ f.rest.bytes ≡ y.items ++ [] =
      ap (λ z. z ++ f.rest.bytes) ring_is ∙ sym (written_ring f x y keeps e) ∙ sym (append-nil y.items) in (
        h.0,
        h.1,
        e.keeps_is ∙ after_by_rule f e.new e.result x y e.unfilled e.fills e.after_is
            ∙ ap (λ (o : Option BodyRule). body_after o f.after) h.3.rule ∙ h.3.after,
        record {
          count = h.4.count;
          live = h.4.live;
          closes = h.4.closes;
          stands = subst (λ (z : List ℕ). Stands V T over given sent h.0 (replies h.1) c.unfed z) moved h.4.stands;
        },
      )
  fills_from (at.Handing who) e h =
      let moved : c.ring ++ f.rest.bytes ≡ y.items ++ [] =
      ap (λ z. z ++ f.rest.bytes) ring_is ∙ sym (handed_ring f x y who e) ∙ sym (append-nil y.items) in (
        h.0,
        h.1,
        sym (sym e.taken ∙ after_by_rule f e.new e.result x y e.unfilled e.fills e.after_is
            ∙ ap (λ (o : Option BodyRule). body_after o f.after) h.3.rule ∙ h.3.after),
        sym h.3.hijacker ∙ sym e.hijacker_is ∙ e.who,
        record {
          count = h.4.count;
          live = h.4.live;
          closes = h.4.closes;
          stands = subst (λ (z : List ℕ). Stands V T over given sent h.0 (replies h.1) c.unfed z) moved h.4.stands;
        },
      )
  fills_from at.Refusing e h = absurd e
  fills_from (at.Listening who) e h = absurd e
  fills_from (at.Speaking who) e h = absurd e
  fills_from at.Parting e h = absurd e
  fills_from (at.Over why.Closed) e h = absurd e
  fills_from (at.Over why.PeerEnd) e h = absurd e
  fills_from (at.Over (why.Idle by)) e h = absurd e
  fills_from (at.Over (why.TimedOut since moment)) e h = absurd e
  fills_from (at.Over (why.Stalled since moment)) e h = absurd e
  fills_from (at.Over (why.Unread level)) e h = absurd e
  fills_from (at.Over why.ReadFailed) e h = absurd e
  fills_from (at.Over why.WriteFailed) e h = absurd e
  fills_from (at.Over (why.Halted level)) e h = absurd e
  fills_from (at.Over why.NoMemory) e h = unsaid V T s over given sent c h.0 h.1 f.rest.bytes h.4
  fills_from (at.Over why.Hijacked) e h = absurd e

same_ring : {B H : Type 0} (V : Voice H) (T : Teller H) (s : Seen) (over : Bool) (given sent : List ℕ) (c : Kept) (x y : Buffer ℕ) → c.ring ≡ x.items
    → (a b : At B H) → b ≡ a → y ≡ x → HoldsAt a V T s over given sent c → HoldsAt b V T s over given sent (with_ring c y.items)
same_ring {B} {H} V T s over given sent c x y ring_is a b e same h =
    let ring : c.ring ≡ y.items = ring_is ∙ ap (λ (z : Buffer ℕ). z.items) (sym same) in
    subst (λ (z : List ℕ). HoldsAt b V T s over given sent (with_ring c z)) ring
    (subst (λ (d : At B H). HoldsAt d V T s over given sent c) (sym e) h)

fills_at : {B H : Type 0} (V : Voice H) (T : Teller H) (s : Seen) (over : Bool) (given sent : List ℕ) (c : Kept) (x y : Buffer ℕ) → c.ring ≡ x.items
    → (a b : At B H) → FillsTo a x b y → IsSaying a → HoldsAt a V T s over given sent c → HoldsAt b V T s over given sent (with_ring c y.items)
fills_at {B} {H} V T s over given sent c x y r at.Reading b e is h = absurd is
fills_at {B} {H} V T s over given sent c x y r at.Asked b e is h = absurd is
fills_at {B} {H} V T s over given sent c x y r (at.Refused fault) b e is h = absurd is
fills_at {B} {H} V T s over given sent c x y r (at.Answering f) b e is h = fills_from V T s over given sent c f x y r b e h
fills_at {B} {H} V T s over given sent c x y r (at.Writing keeps) b e is h =
    same_ring V T s over given sent c x y r (at.Writing keeps) b e.0 e.1 h
fills_at {B} {H} V T s over given sent c x y r (at.Handing who) b e is h =
    same_ring V T s over given sent c x y r (at.Handing who) b e.0 e.1 h
fills_at {B} {H} V T s over given sent c x y r (at.Listening who) b e is h = absurd is
fills_at {B} {H} V T s over given sent c x y r (at.Speaking who) b e is h =
    same_ring V T s over given sent c x y r (at.Speaking who) b e.0 e.1 h
fills_at {B} {H} V T s over given sent c x y r at.Parting b e is h =
    same_ring V T s over given sent c x y r at.Parting b e.0 e.1 h
fills_at {B} {H} V T s over given sent c x y r at.Refusing b e is h =
    same_ring V T s over given sent c x y r at.Refusing b e.0 e.1 h
fills_at {B} {H} V T s over given sent c x y r (at.Over ended) b e is h = absurd is

pub fills_hold : {B H : Type 0} (V : Voice H) (T : Teller H) (s : Seen) (peer : List ℕ) (c : Kept) (a b : At B H) (x y : Buffer ℕ) → c.ring ≡ x.items
    → FillsTo a x b y → IsSaying a → StandsAt V T s peer a c → StandsAt V T s peer b (with_ring c y.items)
fills_hold {B} {H} V T s peer c a b x y r e is h = record {
  given = h.given;
  sent = h.sent;
  over = h.over;
  shows = h.shows;
  counts = h.counts;
  at = fills_at V T s h.over h.given h.sent c x y r a b e is h.at;
}

some_of : (xs ys zs : List ℕ) → zs ≡ xs ++ ys → 0 < length xs + length ys → 0 < length zs
some_of xs ys zs e some = omega (arith, some, ap length e, length-append xs ys)

some_moved : (xs ys zs ws : List ℕ) → zs ++ ws ≡ xs ++ ys → 0 < length xs + length ys → 0 < length zs + length ws
some_moved xs ys zs ws e some = omega (arith, some, ap length e, length-append xs ys, length-append zs ws)

-- what is owed stays
pub fills_rest : {B H : Type 0} (a b : At B H) (x y : Buffer ℕ) (intake : Intake) (unfed : List ℕ) (calls : ℕ) (m : Ending) → FillsTo a x b y → IsSaying a
    → RestsAt a intake unfed x.items calls m → RestsAt b intake unfed y.items calls m
fills_rest {B} {H} at.Reading b x y intake unfed calls m e is h = absurd is
fills_rest {B} {H} at.Asked b x y intake unfed calls m e is h = absurd is
fills_rest {B} {H} (at.Refused fault) b x y intake unfed calls m e is h = absurd is
fills_rest {B} {H} (at.Answering f) at.Reading x y intake unfed calls m e is h = absurd e
fills_rest {B} {H} (at.Answering f) at.Asked x y intake unfed calls m e is h = absurd e
fills_rest {B} {H} (at.Answering f) (at.Refused fault) x y intake unfed calls m e is h = absurd e
fills_rest {B} {H} (at.Answering f) (at.Answering new) x y intake unfed calls m e is h = (
  some_moved x.items f.rest.bytes y.items new.rest.bytes (fill_moves f.rest new.rest (Ok Full) x y e.0) h.0,
  subst (λ (z : After). GoesOn z intake calls m)
      (sym (ap (λ (o : Option BodyRule). body_after o new.after) e.0.rule ∙ ap (body_after f.rest.rule) e.1)) h.1,
)
fills_rest {B} {H} (at.Answering f) (at.Writing keeps) x y intake unfed calls m e is h = (
  some_of x.items f.rest.bytes y.items (written_ring f x y keeps e) h.0,
  subst (λ (z : After). GoesOn z intake calls m)
      (sym (e.keeps_is ∙ after_by_rule f e.new e.result x y e.unfilled e.fills e.after_is)) h.1,
)
fills_rest {B} {H} (at.Answering f) (at.Handing who) x y intake unfed calls m e is h = (
  some_of x.items f.rest.bytes y.items (handed_ring f x y who e) h.0,
  subst (λ (z : After). GoesOn z intake calls m) (sym (sym e.taken ∙ after_by_rule f e.new e.result x y e.unfilled e.fills e.after_is)) h.1,
)
fills_rest {B} {H} (at.Answering f) at.Refusing x y intake unfed calls m e is h = absurd e
fills_rest {B} {H} (at.Answering f) (at.Listening who) x y intake unfed calls m e is h = absurd e
fills_rest {B} {H} (at.Answering f) (at.Speaking who) x y intake unfed calls m e is h = absurd e
fills_rest {B} {H} (at.Answering f) at.Parting x y intake unfed calls m e is h = absurd e
fills_rest {B} {H} (at.Answering f) (at.Over ended) x y intake unfed calls m e is h = tt
fills_rest {B} {H} (at.Writing keeps) b x y intake unfed calls m e is h =
    subst (λ (d : At B H). RestsAt d intake unfed y.items calls m) (sym e.0)
    (subst (λ (z : Buffer ℕ). RestsAt {B = B} {H = H} (at.Writing keeps) intake unfed z.items calls m) (sym e.1) h)
fills_rest {B} {H} (at.Handing who) b x y intake unfed calls m e is h =
    subst (λ (d : At B H). RestsAt d intake unfed y.items calls m) (sym e.0)
    (subst (λ (z : Buffer ℕ). RestsAt {B = B} {H = H} (at.Handing who) intake unfed z.items calls m) (sym e.1) h)
fills_rest {B} {H} (at.Listening who) b x y intake unfed calls m e is h = absurd is
fills_rest {B} {H} (at.Speaking who) b x y intake unfed calls m e is h =
    subst (λ (d : At B H). RestsAt d intake unfed y.items calls m) (sym e.0)
    (subst (λ (z : Buffer ℕ). RestsAt {B = B} {H = H} (at.Speaking who) intake unfed z.items calls m) (sym e.1) h)
fills_rest {B} {H} at.Parting b x y intake unfed calls m e is h =
    subst (λ (d : At B H). RestsAt d intake unfed y.items calls m) (sym e.0)
    (subst (λ (z : Buffer ℕ). RestsAt {B = B} {H = H} at.Parting intake unfed z.items calls m) (sym e.1) h)
fills_rest {B} {H} at.Refusing b x y intake unfed calls m e is h =
    subst (λ (d : At B H). RestsAt d intake unfed y.items calls m) (sym e.0)
    (subst (λ (z : Buffer ℕ). RestsAt {B = B} {H = H} at.Refusing intake unfed z.items calls m) (sym e.1) h)
fills_rest {B} {H} (at.Over ended) b x y intake unfed calls m e is h = absurd is
