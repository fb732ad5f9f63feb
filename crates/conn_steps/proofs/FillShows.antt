-- What a connection shows once the ring was filled.
use Rattle.std.proofs.Common.{◌≡◌, ◌≢◌, ◌↔◌, ℕ, Bool, true, false, IsTrue, List, [], ◌++◌, length, take, ◌≤◌, length-append, refl, sym, ap, subst, ◌∙◌, arith, inl, inr, None, Ok, Err}
use Rattle.std.specs.Prelude.{◌&&◌, ◌==◌}
use Rattle.std.proofs.Math.Seq.{take-append_seam}
use Rattle.std.proofs.lemmas.List.{append-nil, take_all}
use Rattle.circular_buffer.specs.Buffer.{Buffer}
use Rattle.rack_types.specs.declared.peer.Local.{Local}
use Rattle.message_framing.specs.declared.intake.Intake.{Intake}
use Rattle.reply_framing.specs.declared.types.After.{After}
use Rattle.reply_framing.specs.declared.types.Filled.{Filled}
use Rattle.reply_framing.specs.declared.types.Filled.TheVariants.{Full, Done, Broke}
use Rattle.reply_framing.specs.Coming.{Rest}
use Rattle.reply_framing.specs.Fills.{Fills}
use Rattle.reply_framing.specs.Reply.{body_after}
use Rattle.reply_framing.proofs.CallerLemmas.{fill_moves, fill_room, fill_after, written_after}
use Rattle.talk_core.specs.declared.ended.Life.{Life}
use Rattle.talk_core.specs.declared.ended.Why.TheVariants as why
use Rattle.conn_steps.specs.declared.moments.Ending.{Ending}
use Rattle.conn_steps.specs.declared.moments.Moments.{Moments}
use Rattle.conn_steps.specs.declared.at.At.{At}
use Rattle.conn_steps.specs.declared.at.At.TheVariants as at
use Rattle.conn_steps.specs.Inner.{FillsShown, IsFilledAt}
use Rattle.conn_steps.specs.Keeps.{ring_room, filled_if, no_bytes}
use Rattle.conn_steps.specs.At.{IsSaying, state_at}
use Rattle.conn_steps.specs.Rests.{RestsAt}
use Rattle.conn_steps.specs.Shown.{Shown, owed_at, ring_at, replied_at, why_at, fault_at, after_at, sure_at}
use Rattle.conn_steps.specs.Steps.{FillsTo}

-- what is shown at a place
abbrev pub shown_at : {B H : Type 0} → At B H → List ℕ → List ℕ → List ℕ → Local → List Life → ℕ → ℕ → Ending → Moments → Shown
shown_at {B} {H} a ring unfed peer local lives calls taken ending moments = record {
  peer = peer;
  local = local;
  lives = lives;
  calls = calls;
  replied = replied_at a calls;
  taken = taken;
  owed = owed_at a ring;
  state = state_at a;
  why = why_at a;
  fault = fault_at a;
  unfed = unfed;
  after = after_at a;
  sure = sure_at a;
  ring = ring_at a ring;
  ending = ending;
  moments = moments;
}

none_left : (o n : Rest) (result : Filled) (x y : Buffer ℕ) → result ≢ Full → Fills o (Ok result) n x y → n.bytes ≡ []
none_left o n Full x y unfilled fills = absurd (unfilled refl)
none_left o n Done x y unfilled fills = fills.answer.0
none_left o n (Broke rule) x y unfilled fills = fills.answer.0

-- all that was to come is in the ring
pub all_filled : (o n : Rest) (result : Filled) (x y : Buffer ℕ) → result ≢ Full → Fills o (Ok result) n x y → y.items ≡ x.items ++ o.bytes
all_filled o n result x y unfilled fills =
    sym (ap (λ (z : List ℕ). y.items ++ z) (none_left o n result x y unfilled fills) ∙ append-nil y.items) ∙ fill_moves o n (Ok result) x y fills

-- the ring is the front of what is owed, as much as it holds
front_of : (ring behind owed : List ℕ) → ring ++ behind ≡ owed → length ring ≡ ring_room → ring ≡ take ring_room owed
front_of ring behind owed e full =
    sym (ap (λ (n : ℕ). take n (ring ++ behind)) (sym full) ∙ take-append_seam ring behind) ∙ ap (take ring_room) e

whole_of : (ring owed : List ℕ) → length ring ≤ ring_room → ring ≡ owed → ring ≡ take ring_room owed
whole_of ring owed few e = sym (take_all ring_room ring few) ∙ ap (take ring_room) e

same_front : (before ring : List ℕ) → length ring ≤ ring_room → ring ≡ before → ring ≡ take ring_room before
same_front before ring few e = whole_of ring before few e

-- the room stays
pub fills_room : {B H : Type 0} (a b : At B H) (x y : Buffer ℕ) → FillsTo a x b y → IsSaying a → y.capacity ≡ x.capacity
fills_room {B} {H} at.Reading b x y e is = absurd is
fills_room {B} {H} at.Asked b x y e is = absurd is
fills_room {B} {H} (at.Refused f) b x y e is = absurd is
fills_room {B} {H} (at.Answering f) at.Reading x y e is = absurd e
fills_room {B} {H} (at.Answering f) at.Asked x y e is = absurd e
fills_room {B} {H} (at.Answering f) (at.Refused fault) x y e is = absurd e
fills_room {B} {H} (at.Answering f) (at.Answering new) x y e is = fill_room f.rest new.rest (Ok Full) x y e.0
fills_room {B} {H} (at.Answering f) (at.Writing keeps) x y e is = fill_room f.rest e.new.rest (Ok e.result) x y e.fills
fills_room {B} {H} (at.Answering f) (at.Handing h) x y e is = fill_room f.rest e.new.rest (Ok e.result) x y e.fills
fills_room {B} {H} (at.Answering f) at.Refusing x y e is = absurd e
fills_room {B} {H} (at.Answering f) (at.Listening h) x y e is = absurd e
fills_room {B} {H} (at.Answering f) (at.Speaking h) x y e is = absurd e
fills_room {B} {H} (at.Answering f) at.Parting x y e is = absurd e
fills_room {B} {H} (at.Answering f) (at.Over why.Closed) x y e is = absurd e
fills_room {B} {H} (at.Answering f) (at.Over why.PeerEnd) x y e is = absurd e
fills_room {B} {H} (at.Answering f) (at.Over (why.Idle by)) x y e is = absurd e
fills_room {B} {H} (at.Answering f) (at.Over (why.TimedOut since moment)) x y e is = absurd e
fills_room {B} {H} (at.Answering f) (at.Over (why.Stalled since moment)) x y e is = absurd e
fills_room {B} {H} (at.Answering f) (at.Over (why.Unread level)) x y e is = absurd e
fills_room {B} {H} (at.Answering f) (at.Over why.ReadFailed) x y e is = absurd e
fills_room {B} {H} (at.Answering f) (at.Over why.WriteFailed) x y e is = absurd e
fills_room {B} {H} (at.Answering f) (at.Over (why.Halted level)) x y e is = absurd e
fills_room {B} {H} (at.Answering f) (at.Over why.NoMemory) x y e is = fill_room f.rest e.0.rest (Err e.1) x y e.2
fills_room {B} {H} (at.Answering f) (at.Over why.Hijacked) x y e is = absurd e
fills_room {B} {H} (at.Writing keeps) b x y e is = ap (λ (z : Buffer ℕ). z.capacity) e.1
fills_room {B} {H} (at.Handing h) b x y e is = ap (λ (z : Buffer ℕ). z.capacity) e.1
fills_room {B} {H} at.Refusing b x y e is = ap (λ (z : Buffer ℕ). z.capacity) e.1
fills_room {B} {H} (at.Listening h) b x y e is = absurd is
fills_room {B} {H} (at.Speaking h) b x y e is = ap (λ (z : Buffer ℕ). z.capacity) e.1
fills_room {B} {H} at.Parting b x y e is = ap (λ (z : Buffer ℕ). z.capacity) e.1
fills_room {B} {H} (at.Over ended) b x y e is = absurd is

not_false : {P : Type 0} → (IsTrue false ↔ P) → P → ⊥
not_false {P} e p = cc (e.1 p)

not_true : {P : Type 0} → (IsTrue true ↔ P) → P
not_true {P} e = e.0 refl

-- the moments behind a fill
abbrev pub filling : ℕ → Moments → Bool → List ℕ → Moments
filling now t true ring = record t { filled = filled_if (no_bytes ring) now t.filled }
filling now t false ring = t

module _ {B H : Type 0} (now : ℕ) (unfed peer : List ℕ) (local : Local) (lives : List Life) (calls taken : ℕ) (m : Ending) (t : Moments) where
  same_place : (goes : Bool) (a b : At B H) (x y : Buffer ℕ) → b ≡ a → y ≡ x → IsSaying a → why_at a ≡ None → sure_at a ≡ true
      → ring_at a y.items ≡ take ring_room (owed_at a x.items) → ring_at a x.items ≡ x.items → (IsTrue goes ↔ IsSaying b)
      → FillsShown now goes (shown_at a x.items unfed peer local lives calls taken m t)
      (shown_at b y.items unfed peer local lives calls taken m (filling now t goes x.items))
  same_place true a b x y e same is none sure front in_ring goes = record {
    same = record { peer = refl; local = refl; lives = refl; taken = refl };
    calls = refl;
    replied = ap (λ (d : At B H). replied_at d calls) e;
    owed = ap (λ (d : At B H). owed_at d y.items) e ∙ ap (λ (z : Buffer ℕ). owed_at a z.items) same;
    state = ap (λ (d : At B H). state_at d) e;
    why = ap (λ (d : At B H). why_at d) e ∙ none;
    unfed = refl;
    after = ap (λ (d : At B H). after_at d) e;
    sure = λ few. ap (λ (d : At B H). sure_at d) e ∙ sure;
    ending = refl;
    moments = ap (λ (z : List ℕ). record t { filled = filled_if (no_bytes z) now t.filled }) (sym in_ring);
    ring = ap (λ (d : At B H). ring_at d y.items) e ∙ front;
  }
  same_place false a b x y e same is none sure front in_ring goes = absurd (not_false goes (subst (λ (d : At B H). IsSaying d) (sym e) is))

  pub fills_shown : (goes : Bool) (a b : At B H) (x y : Buffer ℕ) → x.capacity ≡ ring_room → length y.items ≤ ring_room → FillsTo a x b y → IsSaying a
      → (IsTrue goes ↔ IsSaying b) → FillsShown now goes (shown_at a x.items unfed peer local lives calls taken m t)
      (shown_at b y.items unfed peer local lives calls taken m (filling now t goes x.items))
  fills_shown goes at.Reading b x y room within e is by = absurd is
  fills_shown goes at.Asked b x y room within e is by = absurd is
  fills_shown goes (at.Refused f) b x y room within e is by = absurd is
  fills_shown goes (at.Answering f) at.Reading x y room within e is by = absurd e
  fills_shown goes (at.Answering f) at.Asked x y room within e is by = absurd e
  fills_shown goes (at.Answering f) (at.Refused fault) x y room within e is by = absurd e
  fills_shown true (at.Answering f) (at.Answering new) x y room within e is by = record {
    same = record { peer = refl; local = refl; lives = refl; taken = refl };
    calls = refl;
    replied = refl;
    owed = fill_moves f.rest new.rest (Ok Full) x y e.0;
    state = refl;
    why = refl;
    unfed = refl;
    after = ap (λ (z : After). body_after new.rest.rule z) e.1 ∙ fill_after f.rest new.rest (Ok Full) x y f.after e.0;
    sure = λ sure.
        elim sure [
          | inl before ↦ e.0.sure ∙ before
          | inr few ↦ absurd (omega (
            arith,
            few,
            e.0.answer.0,
            e.0.answer.1,
            fill_room f.rest new.rest (Ok Full) x y e.0,
            room,
            ap length (fill_moves f.rest new.rest (Ok Full) x y e.0),
            length-append y.items new.rest.bytes,
          ))
        ];
    ending = refl;
    moments = refl;
    ring = front_of y.items new.rest.bytes (x.items ++ f.rest.bytes) (fill_moves f.rest new.rest (Ok Full) x y e.0) (e.0.answer.1 ∙ fill_room f.rest new.rest (Ok Full) x y e.0 ∙ room);
  }
  fills_shown false (at.Answering f) (at.Answering new) x y room within e is by = absurd (not_false by tt)
  fills_shown true (at.Answering f) (at.Writing keeps) x y room within e is by = record {
    same = record { peer = refl; local = refl; lives = refl; taken = refl };
    calls = refl;
    replied = refl;
    owed = all_filled f.rest e.new.rest e.result x y e.unfilled e.fills;
    state = refl;
    why = refl;
    unfed = refl;
    after = e.keeps_is ∙ e.after_is ∙ written_after f.rest e.new.rest e.result x y f.after e.unfilled e.fills;
    sure = λ sure. refl;
    ending = refl;
    moments = refl;
    ring = whole_of y.items (x.items ++ f.rest.bytes) within (all_filled f.rest e.new.rest e.result x y e.unfilled e.fills);
  }
  fills_shown false (at.Answering f) (at.Writing keeps) x y room within e is by = absurd (not_false by tt)
  fills_shown true (at.Answering f) (at.Handing h) x y room within e is by = record {
    same = record { peer = refl; local = refl; lives = refl; taken = refl };
    calls = refl;
    replied = refl;
    owed = all_filled f.rest e.new.rest e.result x y e.unfilled e.fills;
    state = refl;
    why = refl;
    unfed = refl;
    after = sym e.taken ∙ e.after_is ∙ written_after f.rest e.new.rest e.result x y f.after e.unfilled e.fills;
    sure = λ sure. refl;
    ending = refl;
    moments = refl;
    ring = whole_of y.items (x.items ++ f.rest.bytes) within (all_filled f.rest e.new.rest e.result x y e.unfilled e.fills);
  }
  fills_shown false (at.Answering f) (at.Handing h) x y room within e is by = absurd (not_false by tt)
  fills_shown goes (at.Answering f) at.Refusing x y room within e is by = absurd e
  fills_shown goes (at.Answering f) (at.Listening h) x y room within e is by = absurd e
  fills_shown goes (at.Answering f) (at.Speaking h) x y room within e is by = absurd e
  fills_shown goes (at.Answering f) at.Parting x y room within e is by = absurd e
  fills_shown goes (at.Answering f) (at.Over why.Closed) x y room within e is by = absurd e
  fills_shown goes (at.Answering f) (at.Over why.PeerEnd) x y room within e is by = absurd e
  fills_shown goes (at.Answering f) (at.Over (why.Idle reason)) x y room within e is by = absurd e
  fills_shown goes (at.Answering f) (at.Over (why.TimedOut since moment)) x y room within e is by = absurd e
  fills_shown goes (at.Answering f) (at.Over (why.Stalled since moment)) x y room within e is by = absurd e
  fills_shown goes (at.Answering f) (at.Over (why.Unread level)) x y room within e is by = absurd e
  fills_shown goes (at.Answering f) (at.Over why.ReadFailed) x y room within e is by = absurd e
  fills_shown goes (at.Answering f) (at.Over why.WriteFailed) x y room within e is by = absurd e
  fills_shown goes (at.Answering f) (at.Over (why.Halted level)) x y room within e is by = absurd e
  fills_shown true (at.Answering f) (at.Over why.NoMemory) x y room within e is by = absurd (not_true by)
  fills_shown false (at.Answering f) (at.Over why.NoMemory) x y room within e is by = (
    refl,
    sym e.2.sure ∙ e.2.answer,
    record { same = record { peer = refl; local = refl; lives = refl; taken = refl }; calls = refl; state = refl; why = refl },
    record { ending = refl; last = refl; opened = refl; took = refl; filled = λ live. absurd (live refl); filled_or = inl refl; begun = refl; ring = refl },
  )
  fills_shown goes (at.Answering f) (at.Over why.Hijacked) x y room within e is by = absurd e
  fills_shown goes (at.Writing keeps) b x y room within e is by = same_place goes (at.Writing keeps) b x y e.0 e.1 is refl refl (same_front x.items y.items within (ap (λ (z : Buffer ℕ). z.items) e.1)) refl by
  fills_shown goes (at.Handing h) b x y room within e is by = same_place goes (at.Handing h) b x y e.0 e.1 is refl refl (same_front x.items y.items within (ap (λ (z : Buffer ℕ). z.items) e.1)) refl by
  fills_shown goes at.Refusing b x y room within e is by = same_place goes at.Refusing b x y e.0 e.1 is refl refl (same_front x.items y.items within (ap (λ (z : Buffer ℕ). z.items) e.1)) refl by
  fills_shown goes (at.Listening h) b x y room within e is by = absurd is
  fills_shown goes (at.Speaking h) b x y room within e is by = same_place goes (at.Speaking h) b x y e.0 e.1 is refl refl (same_front x.items y.items within (ap (λ (z : Buffer ℕ). z.items) e.1)) refl by
  fills_shown goes at.Parting b x y room within e is by = same_place goes at.Parting b x y e.0 e.1 is refl refl (same_front x.items y.items within (ap (λ (z : Buffer ℕ). z.items) e.1)) refl by
  fills_shown goes (at.Over ended) b x y room within e is by = absurd is

-- what is said next is in the ring
pub fills_some : {B H : Type 0} (a b : At B H) (x y : Buffer ℕ) (intake : Intake) (unfed : List ℕ) (calls : ℕ) (m : Ending) → FillsTo a x b y → IsSaying a
    → y.capacity ≡ ring_room → RestsAt b intake unfed y.items calls m → IsSaying b → IsFilledAt b y.items
fills_some {B} {H} a at.Reading x y intake unfed calls m e is room rests then = absurd then
fills_some {B} {H} a at.Asked x y intake unfed calls m e is room rests then = absurd then
fills_some {B} {H} a (at.Refused f) x y intake unfed calls m e is room rests then = absurd then
fills_some {B} {H} at.Reading (at.Answering new) x y intake unfed calls m e is room rests then = absurd is
fills_some {B} {H} at.Asked (at.Answering new) x y intake unfed calls m e is room rests then = absurd is
fills_some {B} {H} (at.Refused f) (at.Answering new) x y intake unfed calls m e is room rests then = absurd is
fills_some {B} {H} (at.Answering f) (at.Answering new) x y intake unfed calls m e is room rests then =
    (e.0.answer.1 ∙ room, e.0.answer.0)
fills_some {B} {H} (at.Writing keeps) (at.Answering new) x y intake unfed calls m e is room rests then = absurd (cc e.0)
fills_some {B} {H} (at.Handing h) (at.Answering new) x y intake unfed calls m e is room rests then = absurd (cc e.0)
fills_some {B} {H} at.Refusing (at.Answering new) x y intake unfed calls m e is room rests then = absurd (cc e.0)
fills_some {B} {H} (at.Listening h) (at.Answering new) x y intake unfed calls m e is room rests then = absurd is
fills_some {B} {H} (at.Speaking h) (at.Answering new) x y intake unfed calls m e is room rests then = absurd (cc e.0)
fills_some {B} {H} at.Parting (at.Answering new) x y intake unfed calls m e is room rests then = absurd (cc e.0)
fills_some {B} {H} (at.Over ended) (at.Answering new) x y intake unfed calls m e is room rests then = absurd is
fills_some {B} {H} a (at.Writing keeps) x y intake unfed calls m e is room rests then = rests.0
fills_some {B} {H} a (at.Handing h) x y intake unfed calls m e is room rests then = rests.0
fills_some {B} {H} a at.Refusing x y intake unfed calls m e is room rests then = rests
fills_some {B} {H} a (at.Listening h) x y intake unfed calls m e is room rests then = absurd then
fills_some {B} {H} a (at.Speaking h) x y intake unfed calls m e is room rests then = rests.1
fills_some {B} {H} a at.Parting x y intake unfed calls m e is room rests then = rests
fills_some {B} {H} a (at.Over ended) x y intake unfed calls m e is room rests then = absurd then

-- the moment of a fill, by whether the ring was empty
pub fills_told : {B H : Type 0} (now : ℕ) (old : Shown) (goes : Bool) (a b : At B H) (before ring unfed peer : List ℕ) (local : Local) (lives : List Life)
    (calls taken : ℕ) (m : Ending) (t : Moments) (empty : Bool) (filled : ℕ) → empty ≡ (length before == 0)
    → filled ≡ filled_if (goes && empty) now t.filled
    → FillsShown now goes old (shown_at b ring unfed peer local lives calls taken m (filling now t goes before))
    → FillsShown now goes old (shown_at b ring unfed peer local lives calls taken m (record t { filled = filled }))
fills_told {B} {H} now old goes a b before ring unfed peer local lives calls taken m t empty filled none is h =
    subst (λ (u : Moments). FillsShown now goes old (shown_at b ring unfed peer local lives calls taken m u)) (go goes is) h
  where
    go : (x : Bool) → filled ≡ filled_if (x && empty) now t.filled → filling now t x before ≡ record t { filled = filled }
    go true e = ap (λ (n : ℕ). record t { filled = n }) (ap (λ (y : Bool). filled_if y now t.filled) (sym none) ∙ sym e)
    go false e = ap (λ (n : ℕ). record t { filled = n }) (sym e)
