-- What reads and writes leave of a connection that a hijacker has.
use Rattle.std.proofs.Common.{◌≡◌, ◌≢◌, ℕ, false, List, [], ◌∷◌, refl, ap, sym, subst, ◌∙◌, Option, ◌⊎◌, inl, inr}
use Rattle.rack_outside.specs.Link.{Seen}
use Rattle.rack_outside.specs.declared.link.LinkRead.{LinkRead}
use Rattle.rack_outside.specs.declared.link.LinkRead.TheVariants as read
use Rattle.rack_outside.specs.declared.link.LinkWrite.{LinkWrite}
use Rattle.rack_outside.specs.declared.link.LinkWrite.TheVariants as write
use Rattle.reply_framing.specs.declared.types.After.{After}
use Rattle.reply_framing.specs.declared.types.After.TheVariants.{Close}
use Rattle.talk_core.specs.declared.ended.Why.{Why}
use Rattle.conn_core.specs.Calls.{Flushes, Leaves}
use Rattle.conn_steps.specs.Keeps.{reaching}
use Rattle.conn_steps.specs.Moves.{ToldTo, BehindRead, ReadsOnce, StillOwes, SentTo, BehindWrite, Move, Run, Refusal, Want, Read, Write, Point, MakesMove, Goes, IsOwing, flush_at}
use Rattle.conn_steps.specs.Shown.{Shown}
use Rattle.conn_steps.specs.declared.state.Next.{Next}
use Rattle.conn_steps.specs.declared.state.State.{State}
use Rattle.conn_steps.specs.declared.state.State.TheVariants as state
use Rattle.puma_top.specs.Drive.{SaysLast, IsHeard, IsSaid}

-- the peer's end ends the reader of requests
pub heard_end : (a : LinkRead) (o n : Shown) (s u : Seen) → o.state ≡ state.Reading → a ≡ read.End → n.state ≡ state.Reading → ReadsOnce a o n s u → ⊥
heard_end a o n s u is end same h =
    let behind : BehindRead state.Reading read.End o n =
    subst (λ (x : LinkRead). BehindRead state.Reading x o n) end (subst (λ (x : State). BehindRead x a o n) is h.behind) in
    cc (behind.0, same)

told_state : (b : State) (w : Option Why) → ToldTo b w → (b ≡ state.Hijacked) ⊎ (b ≡ state.Over)
told_state state.Reading w h = absurd h
told_state state.Ready w h = absurd h
told_state state.Answering w h = absurd h
told_state state.Hijacked w h = inl refl
told_state state.Over w h = inr refl

-- a hijacker has the connection still, or it is over. Behind the peer's end it says its last
abbrev Told : LinkRead → Shown → Type 0
Told a n =
    ((n.state ≡ state.Hijacked) ⊎ (n.state ≡ state.Over)) × (a ≡ read.End → n.state ≡ state.Hijacked → (n.after ≡ Close) × (n.owed ≢ []))

told_by : (a : LinkRead) (o n : Shown) → o.state ≡ state.Hijacked → BehindRead state.Hijacked a o n → Told a n
told_by (read.Bytes k) o n is h = (told_state n.state n.why h, λ e. cc)
told_by read.NotYet o n is h = (inl (ap (λ (x : Shown). x.state) h ∙ is), λ e. cc)
told_by read.End o n is h = (told_state n.state n.why h.0, λ e. h.1)
told_by read.Failed o n is h = (inr h.0, λ e. cc)

pub heard_state : (a : LinkRead) (o n : Shown) (s u : Seen) → o.state ≡ state.Hijacked → ReadsOnce a o n s u → Told a n
heard_state a o n s u is h = told_by a o n is (subst (λ (x : State). BehindRead x a o n) is h.behind)

-- what is said last stays the last, until it is over
abbrev Lasts : Shown → Type 0
Lasts c = (c.state ≡ state.Over) ⊎ SaysLast c

lasts_not : (c : Shown) (b : State) → Lasts c → c.state ≡ b → b ≢ state.Over → b ≢ state.Hijacked → ⊥
lasts_not c b h e over hijacked = elim h [ inl x ↦ absurd (over (sym e ∙ x)) | inr x ↦ absurd (hijacked (sym e ∙ x.state)) ]

still_last : (rest : List ℕ) (o n : Shown) → SaysLast o → StillOwes rest o n → Lasts n
still_last rest o n h s = inr (record {
  state = s.state ∙ h.state;
  after = s.after ∙ h.after;
  owed = λ none. s.some (sym s.owed ∙ none);
})

written_last : (a : LinkWrite) (o n : Shown) → SaysLast o → BehindWrite a o n → Lasts n
written_last (write.Took k) o n h b = elim b [
  | inl s ↦ still_last _ o n h s
  | inr all ↦
      let sent : SentTo state.Hijacked Close o n =
      subst (λ (x : After). SentTo state.Hijacked x o n) h.after (subst (λ (x : State). SentTo x o.after o n) h.state all.1) in
      inl sent.0
]
written_last write.NotYet o n h b = still_last _ o n h b
written_last write.Failed o n h b = inl b.0
written_last write.NoMemory o n h b = inl b.0

over_owes : (c : Shown) → c.state ≡ state.Over → IsOwing c → ⊥
over_owes c e owes = elim owes [ inl x ↦ cc (x, e) | inr x ↦ cc (x.0, e) ]

last_moved : (move : Move) (m n : Point) → MakesMove move m n → Lasts m.shown → Lasts n.shown
last_moved Run m n h last = absurd (lasts_not m.shown state.Ready last h.0 (λ e. cc) (λ e. cc))
last_moved (Refusal f) m n h last = absurd (lasts_not m.shown state.Ready last h.0 (λ e. cc) (λ e. cc))
last_moved Want m n h last = elim h.0 [
  | inl x ↦ absurd (lasts_not m.shown state.Ready last x.0 (λ e. cc) (λ e. cc))
  | inr x ↦ absurd (lasts_not m.shown state.Answering last x.0 (λ e. cc) (λ e. cc))
]
last_moved (Read a) m n h last = absurd (lasts_not m.shown state.Reading last h.0 (λ e. cc) (λ e. cc))
last_moved (Write a) m n h last = elim last [
  | inl over ↦ absurd (over_owes m.shown over h.0)
  | inr says ↦ written_last a m.shown n.shown says h.3.behind
]

last_goes : (now : ℕ) (moves : List Move) (m n : Point) → Goes now moves m n → Lasts m.shown → Lasts n.shown
last_goes now [] m n h last = subst (λ (x : Point). Lasts x.shown) (sym h) last
last_goes now (move ∷ moves) m n h last = last_goes now moves h.0 n h.3 (last_moved move m h.0 h.1.0 last)

-- a hijacker that has the connection is heard until it is over
pub heard_start : (o : Shown) → o.state ≡ state.Hijacked → o.owed ≢ [] → IsHeard o o
heard_start o is some = inr (is, λ last. record { state = is; after = last; owed = some })

heard_by : (o m n : Shown) → ((n.state ≡ state.Hijacked) ⊎ (n.state ≡ state.Over)) → (SaysLast m → Lasts n) → (o.after ≡ Close → SaysLast m) → IsHeard o n
heard_by o m n is on last = elim is [
  | inl has ↦ inr (has, λ close. elim (on (last close)) [ inl x ↦ cc (x, has) | inr x ↦ x ])
  | inr over ↦ inl over
]

-- the moment that a call is handed changes nothing of it
says_reaching : (now : ℕ) (m : Shown) → SaysLast m → SaysLast (reaching now m)
says_reaching now m h = record { state = h.state; after = h.after; owed = h.owed }

pub heard_then : (now : ℕ) (a : Next) (o m n : Shown) (s u : Seen) → IsHeard o m → m.state ≡ state.Hijacked → Flushes now a (reaching now m) n s u
    → IsHeard o n
heard_then now a o m n s u heard is h =
    let leaves : Leaves state.Hijacked (reaching now m) n = subst (λ (x : State). Leaves x (reaching now m) n) is h.rests in
    elim heard [
      | inl over ↦ cc (over, is)
      | inr has ↦ heard_by o m n leaves.1
          (λ says. last_goes now h.moves (flush_at (reaching now m) s 0 false) (flush_at n u h.writes h.waited) h.made (inr (says_reaching now m says)))
          has.1
    ]

-- one of which bytes are owed is hijacked
pub heard_owes : (o m : Shown) → IsHeard o m → IsOwing m → m.state ≡ state.Hijacked
heard_owes o m heard owes = elim heard [ inl over ↦ absurd (over_owes m over owes) | inr has ↦ has.0 ]

-- and where none are, all was said
pub heard_said : (o m : Shown) → IsHeard o m → m.owed ≡ [] → IsSaid o m
heard_said o m heard none = elim heard [
  | inl over ↦ inl over
  | inr has ↦ inr (has.0, none, λ close. (has.1 close).owed none)
]

pub none_owed : (xs : List ℕ) → ¬ (xs ≢ []) → xs ≡ []
none_owed [] h = refl
none_owed (x ∷ xs) h = absurd (h (λ e. cc))
