-- What stands behind a read.
use Rattle.std.proofs.Common.{◌≡◌, ℕ, ◌+◌, ◌-◌, ◌^◌, min, Bool, true, List, [], ◌++◌, length, refl, sym, ap, subst, ◌∙◌, inl, None}
use Rattle.std.proofs.lemmas.List.{append-nil}
use Rattle.rack_outside.specs.Link.{Seen, IsOneRead, marked}
use Rattle.rack_outside.specs.Told.{Rose, appended}
use Rattle.rack_outside.proofs.CallerLemmas.{rose_some}
use Rattle.message_framing.specs.declared.intake.Intake.{Intake}
use Rattle.message_framing.specs.Request.{Wanting}
use Rattle.talk_core.specs.declared.ended.Why.TheVariants as why
use Rattle.talk_core.specs.Ended.{SentWhole}
use Rattle.talk_core.specs.Stands.{Stands, silent}
use Rattle.talk_core.specs.Tail.{Voice}
use Rattle.talk_core.specs.Talk.{wanting}
use Rattle.talk_core.specs.Teller.{Teller}
use Rattle.talk_core.proofs.CallerLemmas.{taken_more, silent_over, stands_given, whole_wanting, closes_none, shows_given, shows_unread, shows_over}
use Rattle.conn_steps.specs.declared.at.At.{At}
use Rattle.conn_steps.specs.declared.at.At.TheVariants as at
use Rattle.conn_steps.specs.Holds.{Kept, past, Between, HoldsAt, StandsAt}
use Rattle.conn_steps.specs.Steps.{FeedsHeld}
use Rattle.conn_steps.proofs.FeedStands.{feeds_hold}
use Rattle.conn_steps.proofs.AtLemmas.{kept_same, over_same, unclosed}

-- what was sent whole, where nothing stands in what came
pub sent_whole : {H : Type 0} (V : Voice H) (T : Teller H) (s : Seen) (c : Kept) (given sent : List ℕ) (over then_over : Bool) (now : List ℕ) → Wanting now → c.unfed ≡ []
    → Stands V T over given sent c.calls silent (now ++ c.unfed) [] → c.ending.closing ≡ None → SentWhole T (past s c given sent then_over) wanting now sent
sent_whole {H} V T s c given sent over then_over now none nothing h unclosing =
    let rest : now ++ c.unfed ≡ now = ap (λ x. now ++ x) nothing ∙ append-nil now in
    whole_wanting V T (past s c given sent then_over) now c.calls
    (silent_over V T over then_over given sent now [] c.calls (subst (λ (x : List ℕ). Stands V T over given sent c.calls silent x []) rest h))
    none refl (closes_none c.ending.closing c.calls ⊥ now unclosing)

module _ {B H : Type 0} (V : Voice H) (T : Teller H) (old new : Seen) (peer : List ℕ) (c : Kept) (one : IsOneRead old new) where
  -- bytes came, and were fed
  pub took_in : (b : At B H) (piece left : List ℕ) (intake : Intake) (taken : ℕ) → taken ≡ min (c.taken + length piece) (2 ^ 64 - 1) → new.given ≡ appended old.given piece → new.over ≡ old.over
      → FeedsHeld c.intake piece intake left b → StandsAt {B = B} V T old peer at.Reading c
      → StandsAt V T new peer b (record c { intake = intake; unfed = left; taken = taken })
  took_in b piece left intake taken counted given_is over_is f h =
      let now = h.at.0 in
      let between : Between V T h.over h.given h.sent c now = h.at.3 in
      let rest : (now ++ c.unfed) ++ piece ≡ now ++ piece = ap (λ x. (now ++ x) ++ piece) h.at.2 ∙ ap (λ x. x ++ piece) (append-nil now) in
      record {
        given = h.given ++ piece;
        sent = h.sent;
        over = h.over;
        shows = shows_given old new peer h.given h.sent h.over piece one given_is over_is h.shows;
        counts = counted ∙ taken_more h.given piece c.taken h.counts;
        at = subst (λ (x : List ℕ). HoldsAt b V T new h.over (h.given ++ piece) h.sent (record c { intake = intake; unfed = left; ring = x; taken = taken }))
            (sym between.ring)
            (feeds_hold V T new h.over (h.given ++ piece) h.sent c c.intake intake piece left taken now between.live between.unended b f between.fed
            (subst (λ (x : List ℕ). Stands V T h.over (h.given ++ piece) h.sent c.calls silent x []) rest
            (stands_given V T h.over h.given h.sent (now ++ c.unfed) piece c.calls between.stands)));
      }

  -- nothing came yet
  pub not_yet : (d : Kept) → d.intake ≡ c.intake → d.unfed ≡ [] → d.ring ≡ c.ring → d.calls ≡ c.calls → d.taken ≡ c.taken → d.ending ≡ c.ending → new.given ≡ old.given → new.over ≡ old.over
      → StandsAt {B = B} V T old peer at.Reading c → StandsAt {B = B} V T new peer at.Reading d
  not_yet d i e r n t m given_is over_is h =
      let between : Between V T h.over h.given h.sent c h.at.0 = h.at.3 in
      record {
        given = h.given;
        sent = h.sent;
        over = h.over;
        shows = shows_unread old new peer h.given h.sent h.over one given_is over_is h.shows;
        counts = t ∙ h.counts;
        at = subst (λ (x : Kept). HoldsAt {B = B} at.Reading V T new h.over h.given h.sent x)
            (kept_same c d i (e ∙ sym h.at.2) r n t m) (h.at.0, h.at.1, h.at.2, between);
      }

  -- the peer ended
  pub read_end : (d : Kept) → d.calls ≡ c.calls → d.taken ≡ c.taken → d.ending ≡ c.ending → new.given ≡ old.given → new.over ≡ marked old.over
      → StandsAt {B = B} V T old peer at.Reading c → StandsAt {B = B} V T new peer (at.Over why.PeerEnd) d
  read_end d n t m given_is over_is h = record {
    given = h.given;
    sent = h.sent;
    over = true;
    shows = shows_over old new peer h.given h.sent h.over one given_is over_is h.shows;
    counts = t ∙ h.counts;
    at = over_same why.PeerEnd V T new true h.given h.sent c d n m
        (h.at.0, sent_whole V T new c h.given h.sent h.over true h.at.0 h.at.1 h.at.2 h.at.3.stands (unclosed c.ending h.at.3.unended), refl);
  }

  -- the read failed
  pub read_failed : (d : Kept) → d.calls ≡ c.calls → d.taken ≡ c.taken → d.ending ≡ c.ending → new.given ≡ old.given → new.over ≡ old.over → Rose old.failed_reads new.failed_reads
      → StandsAt {B = B} V T old peer at.Reading c → StandsAt {B = B} V T new peer (at.Over why.ReadFailed) d
  read_failed d n t m given_is over_is rose h = record {
    given = h.given;
    sent = h.sent;
    over = h.over;
    shows = shows_unread old new peer h.given h.sent h.over one given_is over_is h.shows;
    counts = t ∙ h.counts;
    at = over_same why.ReadFailed V T new h.over h.given h.sent c d n m (
      rose_some old.failed_reads new.failed_reads rose,
      inl (
        wanting,
        h.at.0,
        tt,
        sent_whole V T new c h.given h.sent h.over h.over h.at.0 h.at.1 h.at.2 h.at.3.stands (unclosed c.ending h.at.3.unended),
      ),
    );
  }
