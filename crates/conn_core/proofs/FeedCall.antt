-- What a feed leaves.
use Rattle.std.proofs.Common.{◌≡◌, ◌≢◌, ℕ, ◌<◌, List, length, refl, sym, ap, subst, ◌∙◌, arith, ◌⊎◌, inl, inr}
use Rattle.rack_types.specs.declared.body.Body.{Ghosts}
use Rattle.rack_outside.specs.Link.{Seen}
use Rattle.rack_outside.specs.declared.link.LinkRead.{LinkRead}
use Rattle.rack_outside.specs.declared.link.LinkRead.TheVariants as read
use Rattle.conn_steps.specs.declared.inside.Inside.{Inside}
use Rattle.conn_steps.specs.declared.at.At.{At}
use Rattle.conn_steps.specs.declared.state.Next.{Next}
use Rattle.conn_steps.specs.declared.state.Next.TheVariants as next
use Rattle.conn_steps.specs.declared.state.State.{State}
use Rattle.conn_steps.specs.declared.state.State.TheVariants as state
use Rattle.conn_core.specs.Answers.{FedSo}
use Rattle.conn_steps.specs.Ends.{FeedEnds}
use Rattle.conn_core.specs.Calls.{FeedTells, Feeds}
use Rattle.conn_steps.specs.Inner.{IsFed, ReadLeaves, ReadsBy, IsHeard, HearLeaves, HearsBy}
use Rattle.conn_steps.specs.Keeps.{Keeps, Read}
use Rattle.conn_steps.specs.Moves.{OffersRoom, size_of, ReadsOnce, OwesRightly}
use Rattle.conn_steps.specs.At.{state_at}
use Rattle.conn_steps.specs.Shown.{Shown, shows}

-- what a read that gave bytes leaves
reads_on : (b : State) → IsFed b → b ≢ state.Over → b ≢ state.Ready → b ≡ state.Reading
reads_on state.Reading fed live more = refl
reads_on state.Ready fed live more = absurd (more refl)
reads_on state.Answering fed live more = absurd fed
reads_on state.Hijacked fed live more = absurd fed
reads_on state.Over fed live more = absurd (live refl)

-- what a hijacker leaves that was told bytes or the peer's end
hears_on : (b : State) → IsHeard b → b ≢ state.Over → b ≡ state.Hijacked
hears_on state.Reading heard live = absurd heard
hears_on state.Ready heard live = absurd heard
hears_on state.Answering heard live = absurd heard
hears_on state.Hijacked heard live = refl
hears_on state.Over heard live = absurd (live refl)

-- what became of the link, by what its read offered
feed_ends : (a : LinkRead) (s u : Seen) → OffersRoom a s u → FeedEnds a s u
feed_ends (read.Bytes k) s u offers = offers.2.3
feed_ends read.NotYet s u offers = offers.2.1
feed_ends read.End s u offers = offers.2.1
feed_ends read.Failed s u offers = (offers.2.1, offers.2.2)

read_gave : (a : LinkRead) (n : Shown) (came : List ℕ) (s u : Seen) → ReadLeaves a n came s u → length came ≡ size_of a
read_gave (read.Bytes k) n came s u h = sym h.0
read_gave read.NotYet n came s u h = ap (λ (x : List ℕ). length x) h.0
read_gave read.End n came s u h = ap (λ (x : List ℕ). length x) h.0
read_gave read.Failed n came s u h = ap (λ (x : List ℕ). length x) h.0

hear_gave : (a : LinkRead) (n : Shown) (came : List ℕ) (s u : Seen) → HearLeaves a n came s u → length came ≡ size_of a
hear_gave (read.Bytes k) n came s u h = sym h.0
hear_gave read.NotYet n came s u h = ap (λ (x : List ℕ). length x) h.0
hear_gave read.End n came s u h = ap (λ (x : List ℕ). length x) h.0
hear_gave read.Failed n came s u h = ap (λ (x : List ℕ). length x) h.0

-- what a feed answers where its read answered so
abbrev pub AnswersSo : {B H : Type 0} → LinkRead → Next → At B H → Type 0
AnswersSo {B} {H} (read.Bytes k) result a = FedSo result a
AnswersSo {B} {H} read.NotYet result a = result ≡ next.Waiting
AnswersSo {B} {H} read.End result a = FedSo result a
AnswersSo {B} {H} read.Failed result a = result ≡ next.Over

module _ {B H : Type 0} (b : At B H) (o n : Shown) (s u : Seen) (is : n.state ≡ state_at b) where
  -- of a read for the reader of requests
  read_tells : (a : LinkRead) (result : Next) (h : ReadsBy a o n s u) → o.state ≡ state.Reading → AnswersSo a result b
      → FeedTells result a o n h.moved.came s u
  read_tells (read.Bytes k) next.Waiting h reading f = absurd f
  read_tells (read.Bytes k) next.More h reading f =
      let some : 0 < length h.moved.came = omega (arith, h.leaves.0, h.leaves.1) in
      (reads_on n.state h.leaves.2 (λ e. f.0 (sym is ∙ e)) (λ e. f.1 (sym is ∙ e)) ∙ sym reading, inl some)
  read_tells (read.Bytes k) next.Ready h reading f = is ∙ f
  read_tells (read.Bytes k) next.TurnOver h reading f = absurd f
  read_tells (read.Bytes k) next.Over h reading f = is ∙ f
  read_tells read.NotYet result h reading f =
      subst (λ (r : Next). FeedTells r read.NotYet o n h.moved.came s u) (sym f) (refl, h.leaves.1 ∙ sym reading, h.leaves.0, h.leaves.2)
  read_tells read.End next.Waiting h reading f = absurd f
  read_tells read.End next.More h reading f = absurd (f.0 (sym is ∙ h.leaves.1))
  read_tells read.End next.Ready h reading f = is ∙ f
  read_tells read.End next.TurnOver h reading f = absurd f
  read_tells read.End next.Over h reading f = is ∙ f
  read_tells read.Failed result h reading f =
      subst (λ (r : Next). FeedTells r read.Failed o n h.moved.came s u) (sym f) h.leaves.1

  pub feeding_read : (now : ℕ) (a : LinkRead) (result : Next) → ReadsBy a o n s u → ReadsOnce a o n s u → Keeps now (Read a) o n → OwesRightly n → o.state ≡ state.Reading → AnswersSo a result b
      → Feeds now result o n s u
  feeding_read now a result h once keeps owes reading f = record {
    answer = a;
    once = once;
    keeps = keeps;
    moved = h.moved;
    came_is = read_gave a n h.moved.came s u h.leaves;
    calls = h.calls;
    replied = h.replied;
    sent = h.sent;
    why = h.why;
    ends = feed_ends a s u once.offers;
    rightly = owes;
    tells = read_tells a result h reading f;
  }

  -- and of one for a hijacker
  hear_tells : (a : LinkRead) (result : Next) (h : HearsBy a o n s u) → o.state ≡ state.Hijacked → AnswersSo a result b
      → FeedTells result a o n h.moved.came s u
  hear_tells (read.Bytes k) next.Waiting h unfed f = absurd f
  hear_tells (read.Bytes k) next.More h unfed f =
      let some : 0 < length h.moved.came = omega (arith, h.leaves.0, h.leaves.1) in
      (hears_on n.state h.leaves.2 (λ e. f.0 (sym is ∙ e)) ∙ sym unfed, inl some)
  hear_tells (read.Bytes k) next.Ready h unfed f = is ∙ f
  hear_tells (read.Bytes k) next.TurnOver h unfed f = absurd f
  hear_tells (read.Bytes k) next.Over h unfed f = is ∙ f
  hear_tells read.NotYet result h unfed f =
      subst (λ (r : Next). FeedTells r read.NotYet o n h.moved.came s u) (sym f) (refl, h.leaves.1 ∙ sym unfed, h.leaves.0, h.leaves.2)
  hear_tells read.End next.Waiting h unfed f = absurd f
  hear_tells read.End next.More h unfed f = (hears_on n.state h.leaves.1 (λ e. f.0 (sym is ∙ e)) ∙ sym unfed, inr refl)
  hear_tells read.End next.Ready h unfed f = is ∙ f
  hear_tells read.End next.TurnOver h unfed f = absurd f
  hear_tells read.End next.Over h unfed f = is ∙ f
  hear_tells read.Failed result h unfed f =
      subst (λ (r : Next). FeedTells r read.Failed o n h.moved.came s u) (sym f) h.leaves.1

  pub feeding_heard : (now : ℕ) (a : LinkRead) (result : Next) → HearsBy a o n s u → ReadsOnce a o n s u → Keeps now (Read a) o n → OwesRightly n → o.state ≡ state.Hijacked → AnswersSo a result b
      → Feeds now result o n s u
  feeding_heard now a result h once keeps owes unfed f = record {
    answer = a;
    once = once;
    keeps = keeps;
    moved = h.moved;
    came_is = hear_gave a n h.moved.came s u h.leaves;
    calls = h.calls;
    replied = h.replied;
    sent = h.sent;
    why = h.why;
    ends = feed_ends a s u once.offers;
    rightly = owes;
    tells = hear_tells a result h unfed f;
  }

-- a read was made for the reader of requests, or for the hijacker that has the connection
abbrev pub Went : ℕ → LinkRead → Shown → Shown → Seen → Seen → Type 0
Went now a o n s u =
    (((o.state ≡ state.Reading) × ReadsBy a o n s u) ⊎ ((o.state ≡ state.Hijacked) × HearsBy a o n s u)) × ReadsOnce a o n s u × Keeps now (Read a) o n

pub feeding_end : {B H : Type 0} (now : ℕ) (b : At B H) (o n : Shown) (s u : Seen) (a : LinkRead) (result : Next) → n.state ≡ state_at b → OwesRightly n → Went now a o n s u
    → AnswersSo a result b → Feeds now result o n s u
feeding_end {B} {H} now b o n s u a result is owes went f =
    elim went.0 [
      | inl by ↦ feeding_read b o n s u is now a result by.1 went.1 went.2 owes by.0 f
      | inr by ↦ feeding_heard b o n s u is now a result by.1 went.1 went.2 owes by.0 f
    ]

-- the same, where two ways come together
pub went_same : {B H L : Type 0} {g : Ghosts B} (moment : ℕ) (seen : L → Seen) (o : Shown) (s : Seen) (new now : Inside B H g) (k l : L) (a d : LinkRead)
    → now ≡ new → l ≡ k → d ≡ a → Went moment a o (shows new) s (seen k) → Went moment d o (shows now) s (seen l)
went_same {B} {H} {L} {g} moment seen o s new now k l a d self link is went =
    subst (λ (x : Inside B H g). Went moment d o (shows x) s (seen l)) (sym self)
    (subst (λ (x : L). Went moment d o (shows new) s (seen x)) (sym link)
    (subst (λ (x : LinkRead). Went moment x o (shows new) s (seen k)) (sym is) went))

-- another state than Reading
pub unread : (x : State) → (x ≡ state.Ready) ⊎ ((x ≡ state.Answering) ⊎ ((x ≡ state.Hijacked) ⊎ (x ≡ state.Over))) → x ≢ state.Reading
unread x h e = elim h [ inl i ↦ cc | inr j ↦ elim j [ inl i ↦ cc | inr k ↦ elim k [ inl i ↦ cc | inr i ↦ cc ] ] ]

-- a read that gave bytes, or the peer's end
pub fed_so : {B H : Type 0} (a : LinkRead) (result : Next) (b : At B H) → ((k : ℕ) × (a ≡ read.Bytes k)) ⊎ (a ≡ read.End) → FedSo result b
    → AnswersSo a result b
fed_so {B} {H} a result b h f =
    elim h [
      | inl gave ↦ subst (λ (x : LinkRead). AnswersSo x result b) (sym gave.1) f
      | inr ended ↦ subst (λ (x : LinkRead). AnswersSo x result b) (sym ended) f
    ]
