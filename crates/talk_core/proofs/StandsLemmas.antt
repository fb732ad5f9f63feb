-- The steps of what a connection stands for.
use Rattle.std.proofs.Common.{◌≡◌, ℕ, suc, ◌+◌, Bool, List, [], ◌∷◌, ◌++◌, length, refl, sym, ap, subst, ◌∙◌, append_assoc, arith, length-append, Some}
use Rattle.std.proofs.lemmas.List.{append-nil}
use Rattle.rack_types.specs.declared.fault.Fault.{Fault}
use Rattle.rack_types.specs.declared.fault.Fault.TheVariants.{T1}
use Rattle.rack_types.specs.Request.{Parts}
use Rattle.message_framing.specs.Request.{IsRequest, Refusal, Wanting, Begun}
use Rattle.reply_framing.specs.declared.types.After.TheVariants.{Keep, Hijack}
use Rattle.reply_framing.specs.Fault.{fault_reply}
use Rattle.talk_core.specs.Teller.{Teller, fates_of}
use Rattle.talk_core.specs.Talk.{Asks, replies_to}
use Rattle.talk_core.specs.Tail.{Voice, tail_of}
use Rattle.talk_core.specs.Stands.{Word, silent, replies, refuses, times_out, hands_over, Stands}
use Rattle.talk_core.proofs.TalkLemmas.{asks_snoc, asks_more, replies_snoc, keep_snoc}

module _ {H : Type 0} (V : Voice H) (T : Teller H) (over : Bool) where
  -- at first
  pub stands_new : Stands V T over [] [] 0 silent [] []
  stands_new = record { whole = []; count = refl; asks = refl; keeps = tt; part = []; sent_is = refl; part_is = refl; fits = tt }

  -- what was sent while nothing is said
  pub silent_sent : (given sent rest : List ℕ) (k : ℕ) (h : Stands V T over given sent k silent rest []) → sent ≡ replies_to T 0 h.whole
  silent_sent given sent rest k h =
      h.sent_is ∙ ap (λ x. replies_to T 0 h.whole ++ x) (sym (append-nil h.part) ∙ h.part_is) ∙ append-nil (replies_to T 0 h.whole)

  -- while nothing is said, the peer's end changes nothing
  pub silent_over : (then_over : Bool) (given sent rest lacks : List ℕ) (k : ℕ) → Stands V T over given sent k silent rest lacks
      → Stands V T then_over given sent k silent rest lacks
  silent_over then_over given sent rest lacks k h = record {
    whole = h.whole;
    count = h.count;
    asks = h.asks;
    keeps = h.keeps;
    part = h.part;
    sent_is = h.sent_is;
    part_is = h.part_is;
    fits = tt;
  }

  pub silent_asks : (given sent rest : List ℕ) (k : ℕ) (h : Stands V T over given sent k silent rest []) → Asks given h.whole rest
  silent_asks given sent rest k h = subst (λ (rs : List Parts). Asks given rs rest) (append-nil h.whole) h.asks

  -- the request at the front is run
  pub stands_asked : (given sent now behind : List ℕ) (r : Parts) (k : ℕ) → Stands V T over given sent k silent (now ++ behind) []
      → IsRequest now r → Stands V T over given sent k (replies r) behind (T k r).bytes
  stands_asked given sent now behind r k h is = record {
    whole = h.whole;
    count = h.count;
    asks = asks_snoc h.whole given (now ++ behind) now behind r (silent_asks given sent (now ++ behind) k h) refl is;
    keeps = h.keeps;
    part = [];
    sent_is = silent_sent given sent (now ++ behind) k h ∙ sym (append-nil (replies_to T 0 h.whole));
    part_is = refl;
    fits = tt;
  }

  -- the bytes at the front are refused
  pub stands_refused : (given sent rest : List ℕ) (f : Fault) (k : ℕ) → Stands V T over given sent k silent rest []
      → Refusal rest f → Stands V T over given sent k (refuses f) rest (fault_reply f)
  stands_refused given sent rest f k h is = record {
    whole = h.whole;
    count = h.count;
    asks = h.asks;
    keeps = h.keeps;
    part = [];
    sent_is = silent_sent given sent rest k h ∙ sym (append-nil (replies_to T 0 h.whole));
    part_is = refl;
    fits = is;
  }

  -- the request that was begun took too long
  pub stands_timed : (given sent rest : List ℕ) (k : ℕ) → Stands V T over given sent k silent rest []
      → Wanting rest → Begun rest → Stands V T over given sent k times_out rest (fault_reply T1)
  stands_timed given sent rest k h none begun = record {
    whole = h.whole;
    count = h.count;
    asks = h.asks;
    keeps = h.keeps;
    part = [];
    sent_is = silent_sent given sent rest k h ∙ sym (append-nil (replies_to T 0 h.whole));
    part_is = refl;
    fits = (none, begun);
  }

  -- a piece of what is lacking was sent
  pub stands_sent : (given sent piece lacks rest : List ℕ) (k : ℕ) (w : Word H)
      → Stands V T over given sent k w rest (piece ++ lacks) → Stands V T over given (sent ++ piece) k w rest lacks
  stands_sent given sent piece lacks rest k w h = record {
    whole = h.whole;
    count = h.count;
    asks = h.asks;
    keeps = h.keeps;
    part = h.part ++ piece;
    sent_is = ap (λ x. x ++ piece) h.sent_is ∙ append_assoc (replies_to T 0 h.whole) h.part piece;
    part_is = append_assoc h.part piece lacks ∙ h.part_is;
    fits = h.fits;
  }

  -- more bytes were given
  pub stands_given : (given sent rest more : List ℕ) (k : ℕ) → Stands V T over given sent k silent rest []
      → Stands V T over (given ++ more) sent k silent (rest ++ more) []
  stands_given given sent rest more k h = record {
    whole = h.whole;
    count = h.count;
    asks = asks_more (h.whole ++ []) given rest more h.asks;
    keeps = h.keeps;
    part = h.part;
    sent_is = h.sent_is;
    part_is = h.part_is;
    fits = tt;
  }

  -- all text with the reply that was sent whole
  pub whole_sent : (given sent rest : List ℕ) (r : Parts) (k : ℕ) (h : Stands V T over given sent k (replies r) rest [])
      → sent ≡ replies_to T 0 (h.whole ++ r ∷ [])
  whole_sent given sent rest r k h =
      let e : k ≡ 0 + length h.whole = omega (arith, h.count) in
      h.sent_is
      ∙ ap (λ x. replies_to T 0 h.whole ++ x) (sym (append-nil h.part) ∙ h.part_is ∙ ap (λ n. (T n r).bytes) e)
      ∙ sym (replies_snoc T h.whole 0 r)

  pub length_snoc : (rs : List Parts) (r : Parts) → length (rs ++ r ∷ []) ≡ suc (length rs)
  length_snoc rs r = omega (arith, length-append rs (r ∷ []))

  -- a reply was sent whole, and the connection goes on
  pub stands_kept : (given sent rest : List ℕ) (r : Parts) (k : ℕ) → Stands V T over given sent k (replies r) rest []
      → (T k r).after ≡ Keep → Stands V T over given sent (suc k) silent rest []
  stands_kept given sent rest r k h keeps =
      let e : k ≡ 0 + length h.whole = omega (arith, h.count) in
      record {
        whole = h.whole ++ r ∷ [];
        count = ap suc h.count ∙ sym (length_snoc h.whole r);
        asks = subst (λ (rs : List Parts). Asks given rs rest) (sym (append-nil (h.whole ++ r ∷ []))) h.asks;
        keeps = keep_snoc (fates_of T) h.whole 0 r h.keeps (subst (λ (n : ℕ). (T n r).after ≡ Keep) e keeps);
        part = [];
        sent_is = whole_sent given sent rest r k h ∙ sym (append-nil (replies_to T 0 (h.whole ++ r ∷ [])));
        part_is = refl;
        fits = tt;
      }

  -- a reply was sent whole, and a hijacker takes the connection over
  pub stands_handed : (given sent rest : List ℕ) (r : Parts) (h : H) (k : ℕ) → Stands V T over given sent k (replies r) rest []
      → (T k r).after ≡ Hijack → (T k r).hijacker ≡ Some h → Stands V T over given sent k (hands_over r h) rest (tail_of V h rest over)
  stands_handed given sent rest r h k s taken who = record {
    whole = s.whole;
    count = s.count;
    asks = s.asks;
    keeps = s.keeps;
    part = s.part;
    sent_is = s.sent_is;
    part_is = ap (λ x. x ++ tail_of V h rest over) (sym (append-nil s.part) ∙ s.part_is);
    fits = (taken, who);
  }
