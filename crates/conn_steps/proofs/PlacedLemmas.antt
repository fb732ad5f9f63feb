-- A connection that may be placed anew: it has answered all that it was asked, and placed in another phase it stands for
-- its talk as before.
use Rattle.std.proofs.Common.{◌≡◌, ℕ, ◌<◌, List, [], length, refl, sym, ap, subst, ◌∙◌, arith, Option, inl, inr}
use Rattle.rack_types.specs.declared.body.Body.{Ghosts}
use Rattle.rack_types.specs.declared.peer.Local.{Local}
use Rattle.rack_env.specs.Environment.{env_pairs}
use Rattle.rack_outside.specs.Link.{Seen}
use Rattle.message_framing.specs.HeadText.{skipped}
use Rattle.message_framing.proofs.CallerLemmas.{wanting_nil}
use Rattle.talk_core.specs.declared.ended.Life.{Life}
use Rattle.talk_core.specs.Ended.{Shows}
use Rattle.talk_core.specs.Lives.{AreLives, placed_lives}
use Rattle.talk_core.specs.Tail.{Voice}
use Rattle.talk_core.specs.Teller.{Stacks, Teller, AgreesBelow, tell, reply_of, is_last}
use Rattle.talk_core.proofs.CallerLemmas.{placed_agrees, placed_are}
use Rattle.conn_steps.specs.declared.inside.Inside.{Inside}
use Rattle.conn_steps.specs.declared.at.At.{At}
use Rattle.conn_steps.specs.declared.at.At.TheVariants as at
use Rattle.conn_steps.specs.Answered.{HasAnswered}
use Rattle.conn_steps.specs.Holds.{Kept, kept, HoldsAt, StandsAt, HoldsBy}
use Rattle.conn_steps.specs.Owner.{IsUnread, IsIdle, MayPlace, HasRoomFor, IsNoneAbove, placed}
use Rattle.conn_steps.specs.Shown.{Shown, shows}
use Rattle.conn_steps.proofs.MovesOfSteps.{reading_place}
use Rattle.conn_steps.proofs.AtLemmas.{unclosed}
use Rattle.conn_steps.proofs.ReadStands.{sent_whole}
use Rattle.conn_steps.proofs.RetellLemmas.{retold}
use Rattle.conn_steps.proofs.TickLemmas.{unbegun_bytes}
use Rattle.conn_steps.proofs.UnreadLemmas.{unread, untold_holds}

module _ {B H : Type 0} {g : Ghosts B} (V : Voice H) (T : Teller H) (s : Seen) (p : Inside B H g) where
  -- what an idle one stands for
  reading : p.at ≡ at.Reading → (h : HoldsBy V T s p) → HoldsAt {B = B} at.Reading V T s h.over h.given h.sent (kept p)
  reading is h = subst (λ (a : At B H). HoldsAt a V T s h.over h.given h.sent (kept p)) is h.at

  -- what it was told doesn't matter
  idle_untold : (told : ℕ) → IsIdle (shows p) → HoldsBy V T s p
      → StandsAt V T s p.peer p.at (record (kept p) { ending = record p.ending { told = told } })
  idle_untold told idle h =
      let is : p.at ≡ at.Reading = reading_place p.at idle.0 in
      let x = reading is h in
      let c : Kept = record (kept p) { ending = record p.ending { told = told } } in
      record {
        given = h.given;
        sent = h.sent;
        over = h.over;
        shows = h.shows;
        counts = h.counts;
        at = subst (λ (a : At B H). HoldsAt a V T s h.over h.given h.sent c) (sym is)
            (x.0, x.1, x.2, record { fed = x.3.fed; ring = x.3.ring; live = x.3.live; unended = x.3.unended; stands = x.3.stands });
      }

  pub untold_placed : (told : ℕ) → MayPlace (shows p) → HoldsBy V T s p
      → StandsAt V T s p.peer p.at (record (kept p) { ending = record p.ending { told = told } })
  untold_placed told may h = elim may [ inl none ↦ untold_holds V T s p told none.0 none.1 h | inr idle ↦ idle_untold told idle h ]

  -- it has answered all that it was asked
  nothing_asked : IsUnread (shows p) → HoldsBy V T s p → HasAnswered s T (shows p)
  nothing_asked none h =
      let x = unread V T s p none.0 none.1 h in
      record {
        given = [];
        sent = [];
        over = h.over;
        shows = subst (λ (b : List ℕ). Shows s p.peer [] b h.over) x.1 (subst (λ (b : List ℕ). Shows s p.peer b h.sent h.over) x.0 h.shows);
        asked = [];
        rest = [];
        talk = record { asks = refl; stops = (tt, wanting_nil) };
        calls_is = x.2;
        sent_is = refl;
        unbegun = λ b. let few : skipped [] < length {A = ℕ} [] = b in omega (arith, few);
        unclosed = x.3;
      }

  all_answered : IsIdle (shows p) → HoldsBy V T s p → HasAnswered s T (shows p)
  all_answered idle h =
      let is : p.at ≡ at.Reading = reading_place p.at idle.0 in
      let x = reading is h in
      let none = unclosed p.ending x.3.unended in
      let whole = sent_whole V T s (kept p) h.given h.sent h.over h.over x.0 x.1 x.2 x.3.stands none in
      record {
        given = h.given;
        sent = h.sent;
        over = h.over;
        shows = h.shows;
        asked = whole.asked;
        rest = x.0;
        talk = whole.talk;
        calls_is = whole.calls_is;
        sent_is = whole.said_is;
        unbegun = unbegun_bytes p is idle.2 x.0 x.3.fed;
        unclosed = none;
      }

  pub has_answered : MayPlace (shows p) → HoldsBy V T s p → HasAnswered s T (shows p)
  has_answered may h = elim may [ inl none ↦ nothing_asked none h | inr idle ↦ all_answered idle h ]

-- placed in another phase, the requests that were run are answered as before
placed_tell : {H : Type 0} (S : Stacks H) (lives : List Life) (local : Local) (peer : List ℕ) (closing : Option ℕ) (phase calls : ℕ)
    → AgreesBelow calls (tell S lives local peer closing) (tell S (placed_lives phase calls lives) local peer closing)
placed_tell {H} S lives local peer closing phase calls i lt r =
    ap (λ (p : ℕ). reply_of (S p) (env_pairs r peer local) r (is_last closing i)) (sym (placed_agrees lives phase calls i lt))

-- so it stands for its talk over the stacks as before
pub placed_holds : {B H : Type 0} {g : Ghosts B} (V : Voice H) (S : Stacks H) (old mid new : Inside B H g) (s : Seen) (phase : ℕ) → mid ≡ old
    → HasRoomFor phase (shows old) → IsNoneAbove phase (shows old) → shows new ≡ placed phase (shows mid)
    → ((T : Teller H) → HoldsBy V T s mid → HoldsBy V T s new) → AreLives old.lives.items old.calls
    → HoldsBy V (tell S old.lives.items old.local old.peer old.ending.closing) s old
    → AreLives new.lives.items new.calls × HoldsBy V (tell S new.lives.items new.local new.peer new.ending.closing) s new
placed_holds {B} {H} {g} V S old mid new s phase e room none_above is step are h =
    let shown_is : shows new ≡ placed phase (shows old) = is ∙ ap (λ (x : Inside B H g). placed phase (shows x)) e in
    let lives : new.lives.items ≡ placed_lives phase old.calls old.lives.items = ap (λ (x : Shown). x.lives) shown_is in
    let calls : new.calls ≡ old.calls = ap (λ (x : Shown). x.calls) shown_is in
    let local : new.local ≡ old.local = ap (λ (x : Shown). x.local) shown_is in
    let peer : new.peer ≡ old.peer = ap (λ (x : Shown). x.peer) shown_is in
    let closing : new.ending.closing ≡ old.ending.closing = ap (λ (x : Shown). x.ending.closing) shown_is in
    let T : Teller H = tell S old.lives.items old.local old.peer old.ending.closing in
    let U : Teller H = tell S (placed_lives phase old.calls old.lives.items) old.local old.peer old.ending.closing in
    let mid_holds : HoldsBy V T s mid = subst (λ (x : Inside B H g). HoldsBy V T s x) (sym e) h in
    let same : AgreesBelow new.calls T U =
    subst (λ (n : ℕ). AgreesBelow n T U) (sym calls) (placed_tell S old.lives.items old.local old.peer old.ending.closing phase old.calls) in
    let stands : HoldsBy V U s new = retold V T U s new.peer new.at (kept new) same (step T mid_holds) in (
      subst (λ (x : List Life). AreLives x new.calls) (sym lives)
          (subst (λ (n : ℕ). AreLives (placed_lives phase old.calls old.lives.items) n) (sym calls)
          (placed_are old.lives.items phase old.calls are room none_above)),
      subst (λ (x : List Life). HoldsBy V (tell S x new.local new.peer new.ending.closing) s new) (sym lives)
          (subst (λ (x : Local). HoldsBy V (tell S (placed_lives phase old.calls old.lives.items) x new.peer new.ending.closing) s new) (sym local)
          (subst (λ (x : List ℕ). HoldsBy V (tell S (placed_lives phase old.calls old.lives.items) old.local x new.ending.closing) s new) (sym peer)
          (subst (λ (x : Option ℕ). HoldsBy V (tell S (placed_lives phase old.calls old.lives.items) old.local old.peer x) s new) (sym closing) stands))),
    )
