-- What crates above may cite: lemmas over the public definitions.
use Rattle.std.proofs.Common.{◌≡◌, ◌≢◌, ℕ, zero, suc, ◌+◌, ◌-◌, ◌^◌, ◌<◌, ◌≤◌, min, Bool, List, [], ◌∷◌, length, refl, ap, subst, arith, Option, None, Some}
use Rattle.std.specs.Prelude.{is_some}
use Rattle.rack_types.specs.declared.body.Body.{Ghosts}
use Rattle.rack_outside.specs.Link.{Seen}
use Rattle.message_framing.specs.declared.intake.Intake.{Intake}
use Rattle.talk_core.specs.Counts.{counted_by}
use Rattle.talk_core.specs.declared.ended.Why.{Why}
use Rattle.talk_core.specs.Ended.{Past, Shows}
use Rattle.talk_core.specs.Tail.{Voice}
use Rattle.talk_core.specs.Teller.{Stacks, Teller, tell, last_phase, phase_at, ask_of, is_last}
use Rattle.talk_core.specs.declared.ended.Life.{Life}
use Rattle.talk_core.specs.Lives.{lives_limit, AreLives, placed_lives}
use Rattle.talk_core.proofs.CallerLemmas.{phase_below, placed_phase, placed_longer, placed_stay, unused_placed}
use Rattle.rack_types.specs.declared.answer.Answer.{Answer}
use Rattle.rack_types.specs.Body.{Content}
use Rattle.rack_types.specs.Env.{Pairs}
use Rattle.rack_env.specs.Environment.{env_pairs}
use Rattle.reply_framing.specs.Reply.{reply}
use Rattle.conn_steps.specs.Owner.{IsUnread, HasRoomFor, IsNoneAbove, placed}
use Rattle.conn_steps.proofs.CallerLemmas.{retold}
use Rattle.conn_steps.proofs.CallerLemmas.{unread}
use Rattle.conn_core.specs.declared.conn.Conn.{Conn}
use Rattle.conn_steps.specs.declared.moments.Ending.{Ending}
use Rattle.conn_steps.specs.declared.at.At.{At}
use Rattle.conn_steps.specs.declared.at.At.TheVariants as at
use Rattle.conn_steps.specs.declared.state.State.{State}
use Rattle.conn_steps.specs.declared.state.State.TheVariants as state
use Rattle.conn_steps.specs.Holds.{kept, HoldsAt}
use Rattle.conn_core.specs.Holds.{Holds}
use Rattle.conn_steps.specs.At.{state_at}
use Rattle.conn_steps.specs.Plain.{EndsPlainly}
use Rattle.conn_steps.specs.Rests.{RestsAt}
use Rattle.conn_steps.specs.Shown.{Shown, Moved, why_at}
use Rattle.conn_core.specs.Shown.{shown, link_of}
use Rattle.conn_steps.proofs.CallerLemmas.{counted_sum}
use Rattle.conn_steps.proofs.CallerLemmas.{live_part}
use Rattle.conn_core.proofs.PartsOfCalls.{moved_same}
use Rattle.conn_core.proofs.WhyLemmas.{no_why_at}
pub use Rattle.conn_steps.proofs.CallerLemmas.{Part}
pub use Rattle.conn_core.proofs.PartsOfCalls.{moved_then, ends_then}
pub use Rattle.conn_core.proofs.WithinLemmas.{feed_moments, turn_moments, flush_moments, moments_same, moments_then, kept_from, within_then, feed_within, turn_within, flush_within, tick_within, ended_within, drained_within, placed_within}
pub use Rattle.conn_core.proofs.TransferLemmas.{feed_transfer, turn_transfer, flush_transfer, tick_transfer, opened_transfer, placed_transfer, drained_transfer, drained_keeps, transfer_unmarked, transfer_marked, transfer_within}
pub use Rattle.conn_core.proofs.LevelLemmas.{transfer_told, told_more, feed_told, turn_told, flush_told, tick_told, ended_told, drained_told, placed_told, no_drain}
pub use Rattle.conn_core.proofs.StoppingLemmas.{feed_rose, flush_writes, flush_rose, turn_leaves, flush_leaves}
pub use Rattle.conn_core.proofs.AnyLemmas.{SameGround, any_kept, any_opened, any_fed, any_flushed, any_ticked, any_drained, any_ended, any_lent, any_placed, any_turned}
pub use Rattle.conn_core.proofs.AnsweredLemmas.{any_asked, asked_are, any_finished, turn_sent}

-- what no call leaves
pub moved_none : (o : Shown) (s : Seen) → Moved o o s s 0 0
moved_none o s = moved_same o o s 0 0 (record { peer = refl; local = refl; lives = refl; taken = refl }) refl refl

-- how many bytes were taken
pub taken_by : (n t : ℕ) → t < 2 ^ 64 → counted_by n t ≡ min (t + n) (2 ^ 64 - 1)
taken_by zero t fits = omega (arith, fits)
taken_by (suc n) t fits = let some : 0 < suc n = omega arith in counted_sum (suc n) t some

-- a connection that isn't over names no why
pub unended : {L B H : Type 0} {g : Ghosts B} (c : Conn L B H g) (s : State) → (shown c).state ≡ s → s ≢ state.Over → (shown c).why ≡ None
unended {L} {B} {H} {g} c s e h = no_why_at c.inside.value.at s e h

few_at : {B H : Type 0} (a : At B H) (intake : Intake) (unfed ring : List ℕ) (calls : ℕ) (m : Ending) → RestsAt a intake unfed ring calls m
    → state_at a ≡ state.Ready → calls < 10000
few_at {B} {H} at.Reading intake unfed ring calls m h e = cc
few_at {B} {H} at.Asked intake unfed ring calls m h e = h.1.0
few_at {B} {H} (at.Refused f) intake unfed ring calls m h e = h.1.0
few_at {B} {H} (at.Answering f) intake unfed ring calls m h e = cc
few_at {B} {H} (at.Writing keeps) intake unfed ring calls m h e = cc
few_at {B} {H} (at.Handing x) intake unfed ring calls m h e = cc
few_at {B} {H} at.Refusing intake unfed ring calls m h e = cc
few_at {B} {H} (at.Listening x) intake unfed ring calls m h e = cc
few_at {B} {H} (at.Speaking x) intake unfed ring calls m h e = cc
few_at {B} {H} at.Parting intake unfed ring calls m h e = cc
few_at {B} {H} (at.Over w) intake unfed ring calls m h e = cc

-- where a request stands, fewer than 10,000 were run
pub few_calls : {L B H : Type 0} {g : Ghosts B} (c : Conn L B H g) → (shown c).state ≡ state.Ready → (shown c).calls < 10000
few_calls {L} {B} {H} {g} c e =
    let p = c.inside.value in few_at p.at p.intake p.unfed p.ring.items p.calls p.ending p.rests e

over_at : {B H : Type 0} (a : At B H) (w : Why) → why_at a ≡ Some w → a ≡ at.Over w
over_at {B} {H} at.Reading w e = cc
over_at {B} {H} at.Asked w e = cc
over_at {B} {H} (at.Refused f) w e = cc
over_at {B} {H} (at.Answering f) w e = cc
over_at {B} {H} (at.Writing keeps) w e = cc
over_at {B} {H} (at.Handing h) w e = cc
over_at {B} {H} at.Refusing w e = cc
over_at {B} {H} (at.Listening h) w e = cc
over_at {B} {H} (at.Speaking h) w e = cc
over_at {B} {H} at.Parting w e = cc
over_at {B} {H} (at.Over v) w e = cc

-- what it has behind it
abbrev pub past_in : Seen → Shown → List ℕ → List ℕ → Bool → Past
past_in s c given sent over = record {
  given = given;
  sent = sent;
  over = over;
  failed_reads = s.failed_reads;
  failed_writes = s.failed_writes;
  calls = c.calls;
  told = c.ending.told;
  closing = c.ending.closing;
}

-- how a connection ended that has this peer, with what its link tells
pub record EndsAt {H : Type 0} (s : Seen) (V : Voice H) (T : Teller H) (c : Shown) (ended : Why) : Type 0 where
  pub given : List ℕ
  pub sent : List ℕ
  pub over : Bool
  pub shows : Shows s c.peer given sent over
  pub ends : EndsPlainly c.ending ended V T (past_in s c given sent over)

-- the replies to its requests by some stacks
abbrev pub told_to : {H : Type 0} → Stacks H → Shown → Teller H
told_to S c = tell S c.lives c.local c.peer c.ending.closing

pub ends_at : {L B H : Type 0} {g : Ghosts B} (seen : L → Seen) (V : Voice H) (S : Stacks H) (c : Conn L B H g) (w : Why)
    → (shown c).why ≡ Some w → Holds seen V S c → EndsAt (seen (link_of c)) V (told_to S (shown c)) (shown c) w
ends_at {L} {B} {H} {g} seen V S c w e h =
    let T : Teller H = told_to S (shown c) in
    let i = h.stands in
    record {
      given = i.given;
      sent = i.sent;
      over = i.over;
      shows = i.shows;
      ends = subst (λ (a : At B H). HoldsAt a V T (seen c.link) i.over i.given i.sent (kept c.inside.value)) (over_at c.inside.value.at w e) i.at;
    }

-- what a connection that has this peer stands for while it lives
pub record PartAt {H : Type 0} (s : Seen) (V : Voice H) (T : Teller H) (c : Shown) : Type 0 where
  pub given : List ℕ
  pub sent : List ℕ
  pub over : Bool
  pub shows : Shows s c.peer given sent over
  pub part : Part V T over given sent c.calls c.ending.closing (is_some c.ending.late) c.owed

pub part_at : {L B H : Type 0} {g : Ghosts B} (seen : L → Seen) (V : Voice H) (S : Stacks H) (c : Conn L B H g)
    → (shown c).state ≢ state.Over → Holds seen V S c → PartAt (seen (link_of c)) V (told_to S (shown c)) (shown c)
part_at {L} {B} {H} {g} seen V S c live h =
    let T : Teller H = told_to S (shown c) in
    let i = h.stands in
    record {
      given = i.given;
      sent = i.sent;
      over = i.over;
      shows = i.shows;
      part = live_part c.inside.value.at V T (seen c.link) i.over i.given i.sent (kept c.inside.value) live i.at;
    }

-- two lists of stacks that agree up to the last phase hold alike
pub holds_by : {L B H : Type 0} {g : Ghosts B} (seen : L → Seen) (V : Voice H) (S U : Stacks H) (c : Conn L B H g)
    → ((phase : ℕ) → phase ≤ last_phase (shown c).lives → (ps : Pairs) (input : List ℕ) → S phase ps input ≡ U phase ps input)
    → Holds seen V S c → Holds seen V U c
holds_by {L} {B} {H} {g} seen V S U c same h =
    let p = c.inside.value in
    let closing : Option ℕ = p.ending.closing in
    record {
      lives_are = h.lives_are;
      stands = retold V (tell S p.lives.items p.local p.peer closing) (tell U p.lives.items p.local p.peer closing) (seen c.link) p.peer p.at (kept p)
          (λ k lt r. ap (λ (a : Answer Content H). reply (ask_of r) (env_pairs r p.peer p.local) a (is_last closing k))
          (same (phase_at p.lives.items k) (phase_below p.lives.items p.calls k h.lives_are) (env_pairs r p.peer p.local) r.body))
          h.stands;
    }

-- one that has fewer than 64 lives has room for a placing, and may be placed in any phase from its last one on
pub has_room : (phase : ℕ) (c : Shown) → length c.lives < lives_limit → HasRoomFor phase c
has_room phase c few = let longer = placed_longer c.lives phase c.calls in omega (arith, longer, few)

pub none_above : {L B H : Type 0} {g : Ghosts B} (seen : L → Seen) (V : Voice H) (S : Stacks H) (c : Conn L B H g) (phase : ℕ) → Holds seen V S c
    → last_phase (shown c).lives ≤ phase → IsNoneAbove phase (shown c)
none_above {L} {B} {H} {g} seen V S c phase h below = placed_stay (shown c).lives phase (shown c).calls h.lives_are below

-- one of which no byte was ever read has one life, and may be placed in any phase
pub unread_placed : {L B H : Type 0} {g : Ghosts B} (seen : L → Seen) (V : Voice H) (S : Stacks H) (c : Conn L B H g) (phase : ℕ) → Holds seen V S c
    → IsUnread (shown c) → HasRoomFor phase (shown c) × IsNoneAbove phase (shown c)
unread_placed {L} {B} {H} {g} seen V S c phase h none =
    let p = c.inside.value in
    unused_placed p.lives.items phase p.calls (unread V _ (seen c.link) p none.0 none.1 h.stands).2 h.lives_are

-- placed in a phase, its next request is answered in that phase
pub placed_last : {L B H : Type 0} {g : Ghosts B} (seen : L → Seen) (V : Voice H) (S : Stacks H) (c : Conn L B H g) (phase : ℕ) → Holds seen V S c
    → last_phase (placed phase (shown c)).lives ≡ phase
placed_last {L} {B} {H} {g} seen V S c phase h = some_phase (shown c).lives h.lives_are
  where
    some_phase : (lives : List Life) → AreLives lives (shown c).calls → last_phase (placed_lives phase (shown c).calls lives) ≡ phase
    some_phase [] are = absurd are
    some_phase (life ∷ lives) are = placed_phase life lives phase (shown c).calls
