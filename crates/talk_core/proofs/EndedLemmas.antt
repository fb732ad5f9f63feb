-- How what stands becomes an end.
use Rattle.std.proofs.Common.{◌≡◌, ℕ, suc, ◌+◌, List, [], ◌∷◌, ◌++◌, length, refl, sym, ap, subst, ◌∙◌, append_assoc, arith, Option, Some, None, inl, inr, ⊎_elim}
use Rattle.std.proofs.lemmas.List.{append-nil}
use Rattle.rack_types.specs.declared.fault.Fault.{Fault}
use Rattle.rack_types.specs.declared.fault.Fault.TheVariants.{T1}
use Rattle.rack_types.specs.Request.{Parts}
use Rattle.message_framing.specs.Request.{Wanting, Begun}
use Rattle.reply_framing.specs.declared.types.After.{After}
use Rattle.reply_framing.specs.declared.types.After.TheVariants.{Close, Hijack}
use Rattle.reply_framing.specs.Fault.{fault_reply}
use Rattle.talk_core.specs.Teller.{Teller}
use Rattle.talk_core.specs.Talk.{Asks, replies_to, wanting, refused, closed, hijacked}
use Rattle.talk_core.specs.Tail.{Voice, tail_of}
use Rattle.talk_core.specs.Stands.{Word, silent, replies, refuses, times_out, hands_over, asked_by, Stands, IsHijack, ClosesAt}
use Rattle.talk_core.specs.Ended.{Past, SentWhole, SentWholeTo, Lacks}
use Rattle.talk_core.proofs.TalkLemmas.{replies_snoc}
use Rattle.talk_core.proofs.StandsLemmas.{silent_sent, silent_asks, whole_sent, length_snoc}

-- what closes by draining, by another reason why bytes may stand behind it
pub closes_for : (closing : Option ℕ) (calls : ℕ) (P Q : Type 0) (rest : List ℕ) → (P → Q) → ClosesAt closing calls P rest → ClosesAt closing calls Q rest
closes_for None calls P Q rest f c = tt
closes_for (Some k) calls P Q rest f c = (c.0, ⊎_elim (λ p. inl (f p)) (λ e. inr e) c.1)

-- where no reply closed by draining, nothing is asked
pub closes_none : (closing : Option ℕ) (calls : ℕ) (P : Type 0) (rest : List ℕ) → closing ≡ None → ClosesAt closing calls P rest
closes_none closing calls P rest e = subst (λ (o : Option ℕ). ClosesAt o calls P rest) (sym e) tt

close_is_no_hijack : (a : After) → a ≡ Close → a ≡ Hijack → ⊥
close_is_no_hijack a x y = cc

module _ {H : Type 0} (V : Voice H) (T : Teller H) (p : Past) where
  -- a reply was sent whole, and closes
  pub whole_closed : (rest : List ℕ) (r : Parts) (k : ℕ) → Stands V T p.over p.given p.sent k (replies r) rest [] → (T k r).after ≡ Close
      → p.calls ≡ suc k → ClosesAt p.closing p.calls ((T k r).after ≡ Hijack) rest → SentWhole T p closed rest p.sent
  whole_closed rest r k h closes calls_is last = record {
    asked = h.whole ++ r ∷ [];
    talk = record {
      asks = h.asks;
      stops = record {
        front = h.whole;
        last = r;
        asked_is = refl;
        keeps = h.keeps;
        fate = subst (λ (n : ℕ). (T n r).after ≡ Close) h.count closes;
      };
    };
    calls_is = calls_is ∙ ap suc h.count ∙ sym (length_snoc V T p.over h.whole r);
    said_is = whole_sent V T p.over p.given p.sent rest r k h ∙ sym (append-nil (replies_to T 0 (h.whole ++ r ∷ [])));
    closes = closes_for p.closing p.calls ((T k r).after ≡ Hijack) (closed ≡ hijacked) rest
        (λ taken. absurd (close_is_no_hijack (T k r).after closes taken)) last;
  }

  -- the reply that names a refusal was sent whole
  pub whole_refused : (rest : List ℕ) (f : Fault) (k : ℕ) → Stands V T p.over p.given p.sent k (refuses f) rest []
      → p.calls ≡ k → ClosesAt p.closing p.calls ⊥ rest → SentWhole T p (refused f) rest p.sent
  whole_refused rest f k h calls_is last = record {
    asked = h.whole;
    talk = record {
      asks = subst (λ (rs : List Parts). Asks p.given rs rest) (append-nil h.whole) h.asks;
      stops = (h.keeps, h.fits);
    };
    calls_is = calls_is ∙ h.count;
    said_is = h.sent_is ∙ ap (λ x. replies_to T 0 h.whole ++ x) (sym (append-nil h.part) ∙ h.part_is);
    closes = closes_for p.closing p.calls ⊥ (refused f ≡ hijacked) rest (λ none. absurd none) last;
  }

  -- nothing stands at the front of what is left
  pub whole_wanting : (rest : List ℕ) (k : ℕ) → Stands V T p.over p.given p.sent k silent rest [] → Wanting rest
      → p.calls ≡ k → ClosesAt p.closing p.calls ⊥ rest → SentWhole T p wanting rest p.sent
  whole_wanting rest k h none calls_is last = record {
    asked = h.whole;
    talk = record { asks = silent_asks V T p.over p.given p.sent rest k h; stops = (h.keeps, none) };
    calls_is = calls_is ∙ h.count;
    said_is = silent_sent V T p.over p.given p.sent rest k h ∙ sym (append-nil (replies_to T 0 h.whole));
    closes = closes_for p.closing p.calls ⊥ (wanting ≡ hijacked) rest (λ never. absurd never) last;
  }

  -- the reply that a request took too long was sent whole
  pub whole_timed : (rest : List ℕ) (k : ℕ) → Stands V T p.over p.given p.sent k times_out rest []
      → p.calls ≡ k → ClosesAt p.closing p.calls ⊥ rest
      → (said : List ℕ) × SentWhole T p wanting rest said × Begun rest × (p.sent ≡ said ++ fault_reply T1)
  whole_timed rest k h calls_is last = (
    replies_to T 0 h.whole,
    record {
      asked = h.whole;
      talk = record {
        asks = subst (λ (rs : List Parts). Asks p.given rs rest) (append-nil h.whole) h.asks;
        stops = (h.keeps, h.fits.0);
      };
      calls_is = calls_is ∙ h.count;
      said_is = sym (append-nil (replies_to T 0 h.whole));
      closes = closes_for p.closing p.calls ⊥ (wanting ≡ hijacked) rest (λ never. absurd never) last;
    },
    h.fits.1,
    h.sent_is ∙ ap (λ x. replies_to T 0 h.whole ++ x) (sym (append-nil h.part) ∙ h.part_is),
  )

  -- a hijacker has said all that it had to say
  pub whole_handed : (rest : List ℕ) (r : Parts) (h : H) (k : ℕ) → Stands V T p.over p.given p.sent k (hands_over r h) rest []
      → p.calls ≡ suc k → ClosesAt p.closing p.calls (Unit {0}) rest
      → (said : List ℕ) × SentWholeTo T p h rest said × (p.sent ≡ said ++ tail_of V h rest p.over)
  whole_handed rest r h k s calls_is last =
      let e : k ≡ 0 + length s.whole = omega (arith, s.count) in
      let all : s.part ≡ (T k r).bytes ++ tail_of V h rest p.over = sym (append-nil s.part) ∙ s.part_is in (
        replies_to T 0 (s.whole ++ r ∷ []),
        record {
          whole = record {
            asked = s.whole ++ r ∷ [];
            talk = record {
              asks = s.asks;
              stops = record {
                front = s.whole;
                last = r;
                asked_is = refl;
                keeps = s.keeps;
                fate = subst (λ (n : ℕ). (T n r).after ≡ Hijack) s.count s.fits.0;
              };
            };
            calls_is = calls_is ∙ ap suc s.count ∙ sym (length_snoc V T p.over s.whole r);
            said_is = sym (append-nil (replies_to T 0 (s.whole ++ r ∷ [])));
            closes = closes_for p.closing p.calls (Unit {0}) (hijacked ≡ hijacked) rest (λ t. refl) last;
          };
          hijacker = subst (λ (n : ℕ). (T n r).hijacker ≡ Some h) s.count s.fits.1;
        },
        s.sent_is ∙ ap (λ x. replies_to T 0 s.whole ++ x) (all ∙ ap (λ n. (T n r).bytes ++ tail_of V h rest p.over) e)
            ∙ sym (append_assoc (replies_to T 0 s.whole) (T (0 + length s.whole) r).bytes (tail_of V h rest p.over))
            ∙ ap (λ x. x ++ tail_of V h rest p.over) (sym (replies_snoc T s.whole 0 r)),
      )

  -- whatever is being said, it stands in part
  pub lacks_of : (word : Word H) (rest lacks : List ℕ) (k : ℕ) → Stands V T p.over p.given p.sent k word rest lacks
      → p.calls ≡ k + length (asked_by word) → ClosesAt p.closing p.calls (IsHijack T k word) rest → Lacks V T p lacks
  lacks_of word rest lacks k h calls_is last = record {
    word = word;
    partly = record { k = k; rest = rest; calls_is = calls_is; stands = h; closes = last };
  }
