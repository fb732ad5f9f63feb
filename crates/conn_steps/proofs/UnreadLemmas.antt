-- What stands where no byte was ever read.
use Rattle.std.proofs.Common.{◌≡◌, ◌≢◌, ℕ, ◌-◌, ◌^◌, ◌≤◌, min, suc, Bool, List, [], ◌∷◌, ◌++◌, length, refl, sym, ap, subst, ◌∙◌, arith, length-append, Option, None, Some}
use Rattle.std.specs.Prelude.{is_some}
use Rattle.std.specs.Prelude.{slice_index_or}
use Rattle.std.proofs.lemmas.List.{append-nil, nil_from_length}
use Rattle.rack_types.specs.declared.body.Body.{Ghosts}
use Rattle.rack_types.specs.Request.{Parts}
use Rattle.rack_outside.specs.Link.{Seen}
use Rattle.message_framing.specs.Request.{IsRequest, Refusal, Begun}
use Rattle.message_framing.proofs.CallerLemmas.{wanting_nil, begins_whole}
use Rattle.talk_core.specs.declared.ended.Life.{Life}
use Rattle.talk_core.specs.declared.ended.Why.TheVariants as why
use Rattle.talk_core.specs.Stands.{Word, asked_by, silent, replies, refuses, times_out, hands_over, Stands, ClosesAt}
use Rattle.talk_core.specs.Tail.{Voice}
use Rattle.talk_core.specs.Talk.{Asks, replies_to}
use Rattle.talk_core.specs.Teller.{Teller, last_phase}
use Rattle.conn_steps.specs.declared.inside.Inside.{Inside}
use Rattle.conn_steps.specs.declared.moments.Ending.{Ending}
use Rattle.conn_steps.specs.declared.moments.Late.{Late}
use Rattle.conn_steps.specs.declared.at.At.{At}
use Rattle.conn_steps.specs.declared.at.At.TheVariants as at
use Rattle.conn_steps.specs.declared.state.State.TheVariants as state
use Rattle.conn_steps.specs.Holds.{Kept, kept, Between, Refuses, HoldsAt, StandsAt, HoldsBy}
use Rattle.conn_steps.specs.At.{state_at}
use Rattle.conn_steps.specs.Shown.{owed_at}
use Rattle.conn_steps.proofs.ConnLemmas.{Part, PartOf, live_part}

pub none_before : (xs ys : List ℕ) → [] ≡ xs ++ ys → xs ≡ []
none_before xs ys e =
    let none : length xs ≡ 0 = omega (arith, ap length e, length-append xs ys) in nil_from_length xs none

-- nothing is asked in no bytes
asks_nothing : (rs : List Parts) (rest : List ℕ) → Asks [] rs rest → (rs ≡ []) × (rest ≡ [])
asks_nothing [] rest e = (refl, sym e)
asks_nothing (r ∷ rs) rest e =
    absurd (wanting_nil.0 (length {A = ℕ} []) r (begins_whole [] r (subst (λ (x : List ℕ). IsRequest x r) (none_before e.0 e.1 e.2) e.3)))

some_asked : {A : Type 0} (xs : List A) (x : A) → xs ++ x ∷ [] ≡ [] → ⊥
some_asked {A} xs x e = omega (arith, ap length e, length-append xs (x ∷ []))

module _ {H : Type 0} (V : Voice H) (T : Teller H) (over : Bool) (sent : List ℕ) (k : ℕ) where
  -- of no bytes nothing is said
  unread_word : (word : Word H) (rest lacks : List ℕ) → Stands V T over [] sent k word rest lacks → (sent ≡ []) × (k ≡ 0) × (length (asked_by word) ≡ 0)
  unread_word silent rest lacks h =
      let none : h.whole ≡ [] = sym (append-nil h.whole) ∙ (asks_nothing (h.whole ++ []) rest h.asks).0 in (
        h.sent_is ∙ ap (λ (rs : List Parts). replies_to T 0 rs ++ h.part) none ∙ none_before h.part lacks (sym h.part_is),
        h.count ∙ ap length none,
        refl,
      )
  unread_word (replies r) rest lacks h = absurd (some_asked h.whole r (asks_nothing (h.whole ++ r ∷ []) rest h.asks).0)
  unread_word (refuses f) rest lacks h =
      absurd (wanting_nil.1 f (subst (λ (x : List ℕ). Refusal x f) (asks_nothing (h.whole ++ []) rest h.asks).1 h.fits))
  unread_word times_out rest lacks h =
      let begun : Begun [] = subst (λ (x : List ℕ). Begun x) (asks_nothing (h.whole ++ []) rest h.asks).1 h.fits.1 in absurd (omega (arith, begun))
  unread_word (hands_over r who) rest lacks h = absurd (some_asked h.whole r (asks_nothing (h.whole ++ r ∷ []) rest h.asks).0)

-- no reply closes by draining where nothing was run
unclosing : (closing : Option ℕ) (calls : ℕ) (P : Type 0) (rest : List ℕ) → calls ≡ 0 → ClosesAt closing calls P rest → closing ≡ None
unclosing None calls P rest none c = refl
unclosing (Some k) calls P rest none c = absurd (omega (arith, none, c.0))

unread_part : {H : Type 0} (V : Voice H) (T : Teller H) (over : Bool) (sent : List ℕ) (calls : ℕ) (closing : Option ℕ) (timed : Bool) (owed : List ℕ)
    → Part V T over [] sent calls closing timed owed → (sent ≡ []) × (calls ≡ 0) × (closing ≡ None)
unread_part {H} V T over sent calls closing timed owed p =
    let x = unread_word V T over sent p.partly.k p.word p.partly.rest owed p.partly.stands in
    let none : calls ≡ 0 = omega (arith, p.partly.calls_is, x.1, x.2) in
    (x.0, none, unclosing closing calls _ p.partly.rest none p.partly.closes)

-- no byte was given where none was counted
given_none : (taken : ℕ) (given : List ℕ) → taken ≡ min (length given) (2 ^ 64 - 1) → taken ≡ 0 → given ≡ []
given_none taken given counts none = let few : length given ≡ 0 = omega (arith, counts, none) in nil_from_length given few

-- nothing was given, sent or run
pub unread : {B H : Type 0} {g : Ghosts B} (V : Voice H) (T : Teller H) (s : Seen) (p : Inside B H g) → p.taken ≡ 0 → state_at p.at ≢ state.Over
    → (h : HoldsBy V T s p) → (h.given ≡ []) × (h.sent ≡ []) × (p.calls ≡ 0) × (p.ending.closing ≡ None)
unread {B} {H} {g} V T s p none live h =
    let nothing : h.given ≡ [] = given_none p.taken h.given h.counts none in
    let part : PartOf V T h.over [] h.sent (kept p) (owed_at p.at p.ring.items) =
    subst (λ (x : List ℕ). PartOf V T h.over x h.sent (kept p) (owed_at p.at p.ring.items)) nothing
    (live_part p.at V T s h.over h.given h.sent (kept p) live h.at) in
    let x = unread_part V T h.over h.sent p.calls p.ending.closing (is_some p.ending.late) (owed_at p.at p.ring.items) part in
    (nothing, x.0, x.1, x.2)

-- it may be let go
pub ends_unread : {B H : Type 0} {g : Ghosts B} (V : Voice H) (T : Teller H) (s : Seen) (p : Inside B H g) (c : Kept) (level : ℕ) → p.taken ≡ 0
    → state_at p.at ≢ state.Over → 1 ≤ level → c.calls ≡ p.calls → c.taken ≡ p.taken → c.ending ≡ p.ending → HoldsBy V T s p
    → StandsAt {B = B} V T s p.peer (at.Over (why.Unread level)) c
ends_unread {B} {H} {g} V T s p c level none live some n t m h =
    let x = unread V T s p none live h in
    record {
      given = h.given;
      sent = h.sent;
      over = h.over;
      shows = h.shows;
      counts = t ∙ h.counts;
      at = (x.0, x.1, n ∙ x.2, ap (λ (e : Ending). e.closing) m ∙ x.3, some);
    }

-- the phase of the last of some lives
pub last_is : (lives : List Life) (life : Life) → length lives ≢ 0 → (slice_index_or lives (length lives - 1) life).phase ≡ last_phase lives
last_is [] life some = absurd (some refl)
last_is (x ∷ []) life some = refl
last_is (x ∷ y ∷ xs) life some =
    let next : suc (suc (length xs)) - 1 ≡ suc (suc (length xs) - 1) = omega arith in
    ap (λ (n : ℕ). (slice_index_or (x ∷ y ∷ xs) n life).phase) next ∙ last_is (y ∷ xs) life (λ e. cc)

-- of one of which no byte was ever read what it was told doesn't matter
pub untold_holds : {B H : Type 0} {g : Ghosts B} (V : Voice H) (T : Teller H) (s : Seen) (p : Inside B H g) (told : ℕ) → p.taken ≡ 0
    → state_at p.at ≢ state.Over → HoldsBy V T s p → StandsAt V T s p.peer p.at (record (kept p) { ending = record p.ending { told = told } })
untold_holds {B} {H} {g} V T s p told none live h = record {
  given = h.given;
  sent = h.sent;
  over = h.over;
  shows = h.shows;
  counts = h.counts;
  at = go p.at live h.at;
}
  where
    c : Kept
    c = kept p

    d : Kept
    d = record c { ending = record c.ending { told = told } }

    nothing : p.calls ≡ 0
    nothing = (unread V T s p none live h).2

    between : (now : List ℕ) → Between V T h.over h.given h.sent c now → Between V T h.over h.given h.sent d now
    between now x = record { fed = x.fed; ring = x.ring; live = x.live; unended = x.unended; stands = x.stands }

    run : (k : ℕ) → c.calls ≡ suc k → ⊥
    run k e = omega (arith, e, nothing)

    go : (a : At B H) → state_at a ≢ state.Over → HoldsAt a V T s h.over h.given h.sent c → HoldsAt a V T s h.over h.given h.sent d
    go at.Reading y x = (x.0, x.1, x.2, between x.0 x.3)
    go at.Asked y x = (x.0, x.1, x.2, between x.0 x.3)
    go (at.Refused f) y x = (x.0, x.1, x.2, between x.0 x.3)
    go (at.Answering f) y x = absurd (run x.0 x.4.count)
    go (at.Writing keeps) y x = absurd (run x.0 x.3.count)
    go (at.Handing who) y x = absurd (run x.0 x.4.count)
    go at.Refusing y x = refusing c.ending.late x
      where
        refusing : (late : Option Late) → Refuses late V T h.over h.given h.sent c → Refuses late V T h.over h.given h.sent d
        refusing None z = z
        refusing (Some late) z = z
    go (at.Listening who) y x = absurd (run x.handed.k x.handed.count)
    go (at.Speaking who) y x = absurd (run x.handed.k x.handed.count)
    go at.Parting y x = absurd (run x.handed.k x.handed.count)
    go (at.Over w) y x = absurd (y refl)
